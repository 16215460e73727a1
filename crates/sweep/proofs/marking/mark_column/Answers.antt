-- `sweep::marking::mark_column` meets its contract: after y turns the codes below 15 x + y are marked. Assumes nothing.
use mathlib.Core.Path.{◌≡◌, ap, ◌∙◌}
use Prim.Native.Nat.{ℕ, ◌+◌}
use native.Mathlib.Omega.{arith}
use Rattle.rules.specs.Point.{code_of}
use Rattle.sweep.specs.Marks.{marks, codes_below, has_value}
use Rattle.sweep.proofs.Marks.{marks-more}
use Rattle.sweep.proofs.marking.mark_column.Goals as goal

pub loop-y-preserved : goal.loop-y-preserved
unfolding has_value
loop-y-preserved c =
    let a = c.args in
    let y = c.loop-y.y in
    let f = has_value a.cells.now a.value in
    let next : code_of a.x y + 1 ≡ code_of a.x (y + 1) = omega arith in
    marks-more a.x y (omega arith) (omega arith) f c.loop-y.invariant c.mark.ensures ∙ ap (λ (n : ℕ). marks (codes_below n f)) next
