-- `second::list::is_four_eye` meets its contract: after j turns no Four that starts below j has the eye. Assumes nothing.
use mathlib.Core.Path.{◌≡◌, ap, sym, ◌∙◌}
use mathlib.Core.Bool.{true, ◌&&◌}
use Prim.Native.Nat.{ℕ}
use native.Mathlib.Omega.{arith}
use Rattle.rules.specs.Tools.{any_below}
use Rattle.rules.specs.Line.{eye_of_some}
use Rattle.rules.specs.Point.{line_no}
use Rattle.rules.specs.Grid.{rows_through, four_eye, eye_on}
use Rattle.rules.specs.declared.RowKind.TheVariants.{Four}
use Rattle.second.proofs.Bounded.{made-is}
use Rattle.second.proofs.Gathered.{any_none, any-more, any_found}
use Rattle.second.proofs.list.is_four_eye.Goals as goal
use Rattle.second.proofs.list.is_four_eye.Goals.{else-is_through-via-then-is_through+else-is_eye, else-is_through-via-else-is_through}

pub loop-j-init : goal.loop-j-init
loop-j-init c = any_none _

pub returns-then-is_eye : goal.returns-then-is_eye
unfolding four_eye eye_of_some eye_on
returns-then-is_eye c =
    let a = c.args in
    let j = c.loop-j.j in
    let is = made-is 16 _ c.new.ensures c.unwrap-j.ensures in
    let through : rows_through a.player Four a.board.now a.code a.d j ≡ true =
    rw is at (sym c.is_through.ensures ∙ c.if-is_through.true) in
    let eye : eye_on a.player Four a.board.now a.d (line_no a.d a.code) j a.i ≡ true = rw is at (sym c.is_eye.ensures ∙ c.if-is_eye.true) in
    any_found 16 _ j c.loop-j-test.true (rw (through, eye))

pub loop-j-preserved : goal.loop-j-preserved
loop-j-preserved c =
    let a = c.args in
    let j = c.loop-j.j in
    let is = made-is 16 _ c.new.ensures c.unwrap-j.ensures in
    let through : c.is_through.result ≡ rows_through a.player Four a.board.now a.code a.d j = rw is at c.is_through.ensures in
    elim c.else-is_through.branch [
      | else-is_through-via-then-is_through+else-is_eye w ↦
          let eye : w.is_eye.result ≡ eye_on a.player Four a.board.now a.d (line_no a.d a.code) j a.i = rw is at w.is_eye.ensures in
          any-more _ j c.loop-j.invariant (rw (sym through ∙ w.if-is_through.true, sym eye ∙ w.if-is_eye.false))
      | else-is_through-via-else-is_through w ↦ any-more _ j c.loop-j.invariant (rw (sym through ∙ w.if-is_through.false))
    ]

pub returns : goal.returns
unfolding four_eye eye_of_some eye_on
returns c =
    let a = c.args in
    let e : c.loop-j.j ≡ 16 = omega arith in
    sym (ap (λ (n : ℕ). any_below n (λ x. rows_through a.player Four a.board.now a.code a.d x
    && eye_on a.player Four a.board.now a.d (line_no a.d a.code) x a.i)) (sym e) ∙ c.loop-j.invariant)
