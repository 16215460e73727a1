-- `second::list::point_rows` meets its contract: after d turns the lines of the first d directions are done. Assumes nothing.
use mathlib.Core.Path.{◌≡◌, ap, sym, ◌∙◌}
use Prim.Native.Nat.{ℕ}
use native.Mathlib.Omega.{arith}
use lib.ListN.{length}
use Rattle.rules.specs.Tools.{gather}
use Rattle.rules.specs.Point.{line_no}
use Rattle.rules.specs.Grid.{rows_on_point, rows_in, rows_through}
use Rattle.lent.proofs.Laws.{gather_none, gather_put, gather-length}
use Rattle.second.proofs.Bounded.{made-is}
use Rattle.second.proofs.Gathered.{rows_short}
use Rattle.second.proofs.list.point_rows.Goals as goal

pub loop-d-init : goal.loop-d-init
loop-d-init c =
    let a = c.args in
    c.new-list.ensures ∙ sym (gather_none (rows_in a.player a.kind a.board.now a.code))

pub keep_rows-requires : goal.keep_rows-requires
keep_rows-requires c =
    let a = c.args in
    let on = c.loop-d-test.true in
    let few = gather-length 60 c.loop-d.d (rows_in a.player a.kind a.board.now a.code)
    (λ d l. rows_short a.player a.kind a.board.now d (line_no d a.code) (rows_through a.player a.kind a.board.now a.code d)) in
    (omega arith, omega (arith, ap length c.loop-d.invariant, few, on))

pub loop-d-preserved : goal.loop-d-preserved
loop-d-preserved c =
    let a = c.args in
    gather_put 240 (rows_in a.player a.kind a.board.now a.code) c.loop-d.d c.loop-d.invariant
    (rw (made-is 4 _ c.new.ensures c.unwrap-d.ensures) at c.keep_rows.ensures)

pub returns : goal.returns
unfolding rows_on_point
returns c =
    let a = c.args in
    let e : c.loop-d.d ≡ 4 = omega arith in
    c.loop-d.invariant ∙ ap (λ (n : ℕ). gather n (rows_in a.player a.kind a.board.now a.code)) e
