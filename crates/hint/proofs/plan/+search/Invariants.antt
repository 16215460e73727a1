-- The three functions of the search meet their contracts. What falls at each call is three times the attacks left, and a little: `plan_on` 2,
-- `attack_on` 1, `forced_on` 0. Assumes nothing.
use mathlib.Core.Path.{◌≡◌}
use mathlib.Core.List.{[]}
use Prim.Native.Nat.{◌+◌, ◌-◌, ◌*◌, ◌≤◌}
use Rattle.grid.specs.Lines.{cells_of}
use Rattle.hint.specs.Planner.{first_line, line_from, plan_from}
use Rattle.hint.proofs.plan.+search.Given as goal

abbrev pub decreases-attack_on : goal.decreases-attack_on
decreases-attack_on l = 3 * l.left + 1

abbrev pub decreases-forced_on : goal.decreases-forced_on
decreases-forced_on l = 3 * l.left

abbrev pub decreases-plan_on : goal.decreases-plan_on
decreases-plan_on l = 3 * l.left + 2

abbrev pub invariant-plan_on-loop-p : goal.invariant-plan_on-loop-p
invariant-plan_on-loop-p l = (l.lines ≡ l.initial.lines) × (l.out ≡ l.initial.out) × (l.p ≤ 225) × (first_line l.p (line_from l.side (plan_from l.side (l.left - 1)) (cells_of l.initial.lines)) ≡ [])

abbrev pub decreases-plan_on-loop-p : goal.decreases-plan_on-loop-p
decreases-plan_on-loop-p l = 225 - l.p
