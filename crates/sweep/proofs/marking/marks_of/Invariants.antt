-- `sweep::marking::marks_of` meets its contract: after x turns the codes below 15 x are marked. Assumes nothing.
use mathlib.Core.Path.{◌≡◌}
use Prim.Native.Nat.{◌*◌}
use Rattle.sweep.specs.Marks.{marks, codes_below, has_value}
use Rattle.sweep.proofs.marking.marks_of.Given as goal

abbrev pub invariant-loop-x : goal.invariant-loop-x
invariant-loop-x l = l.marks ≡ marks (codes_below (15 * l.x) (has_value l.cells l.value))
