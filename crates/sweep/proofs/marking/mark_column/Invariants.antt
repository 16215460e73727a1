-- `sweep::marking::mark_column` meets its contract: after y turns the codes below 15 x + y are marked. Assumes nothing.
use mathlib.Core.Path.{◌≡◌}
use Rattle.rules.specs.Point.{code_of}
use Rattle.sweep.specs.Marks.{marks, codes_below, has_value}
use Rattle.sweep.proofs.marking.mark_column.Given as goal

abbrev pub invariant-loop-y : goal.invariant-loop-y
invariant-loop-y l = l.m ≡ marks (codes_below (code_of l.x l.y) (has_value l.cells l.value))
