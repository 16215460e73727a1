-- `sweep::marking::marks_of` meets its contract: after x turns the codes below 15 x are marked. Assumes nothing.
use mathlib.Core.Path.{◌≡◌, ap, ◌∙◌}
use Prim.Native.Nat.{ℕ, ◌*◌}
use native.Mathlib.Omega.{arith}
use Rattle.lent.specs.Lists.{zeros}
use Rattle.sweep.specs.Marks.{marks, codes_below, has_value}
use Rattle.sweep.proofs.Marks.{codes-none, codes_all}
use Rattle.sweep.proofs.marking.marks_of.Goals as goal

pub loop-x-init : goal.loop-x-init
unfolding zeros
loop-x-init c = codes-none _

pub returns : goal.returns
returns c =
    let a = c.args in
    let f = has_value a.cells.now a.value in
    let last : 15 * c.loop-x.x ≡ 225 = omega arith in
    c.loop-x.invariant ∙ ap (λ (n : ℕ). marks (codes_below n f)) last ∙ codes_all f
