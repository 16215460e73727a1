-- `second::count::count_along` meets its contract: after j turns the starts below j are seen. Assumes nothing.
use mathlib.Core.Path.{◌≡◌, sym, ◌∙◌}
use native.Mathlib.Omega.{arith}
use Rattle.rules.specs.Grid.{rows_through}
use Rattle.rules.specs.declared.Player.TheVariants.{Black}
use Rattle.second.proofs.Bounded.{made-is}
use Rattle.second.proofs.Tallied.{seen_far, seen_end}
use Rattle.second.proofs.count.count_along.Goals as goal

pub returns-then-j-i-ge2 : goal.returns-then-j-i-ge2
returns-then-j-i-ge2 c =
    let a = c.args in
    let s = rows_through Black a.kind a.board.now a.code a.d in (
      seen_far s c.loop-j.j c.in-Some.i c.loop-j-test.true (rw c.in-Some.is at c.loop-j.invariant)
          (rw (made-is 16 _ c.new.ensures c.unwrap.ensures) at (sym c.is_through.ensures ∙ c.if-is_through.true)) c.if-j-i-ge2.true,
      omega arith,
    )

pub returns-then-is_some : goal.returns-then-is_some
returns-then-is_some c =
    let a = c.args in
    let s = rows_through Black a.kind a.board.now a.code a.d in
    let e : c.loop-j.j ≡ 16 = omega arith in
    (rw (sym c.is_some.ensures ∙ c.if-is_some.true) at (seen_end s c.loop-j.first (rw e at c.loop-j.invariant)), omega arith)

pub returns-else-is_some : goal.returns-else-is_some
returns-else-is_some c =
    let a = c.args in
    let s = rows_through Black a.kind a.board.now a.code a.d in
    let e : c.loop-j.j ≡ 16 = omega arith in
    (rw (sym c.is_some.ensures ∙ c.if-is_some.false) at (seen_end s c.loop-j.first (rw e at c.loop-j.invariant)), omega arith)
