-- The four functions of the cycle meet their contracts. What falls at each call is six times the number of empty points, and a little: on one
-- board `deepest_eye` 4, `eye_depth` 3, `depth_by` 2, `trial_depth` 1. Assumes nothing.
use mathlib.Core.Path.{◌≡◌}
use Prim.Native.Nat.{ℕ, ◌+◌, ◌-◌, ◌*◌}
use Rattle.rules.specs.Grid.{empties, starts_of, numbered, next_from}
use Rattle.rules.specs.Depth.{depth_of}
use Rattle.rules.proofs.Depth.{deepest_below}
use Rattle.grid.specs.Lines.{cells_of}
use Rattle.depth.proofs.cycle.+depths.Given as goal

abbrev pub decreases-deepest_eye : goal.decreases-deepest_eye
decreases-deepest_eye l = 6 * empties (cells_of l.lines.now) + 4

abbrev pub decreases-depth_by : goal.decreases-depth_by
decreases-depth_by l = 6 * empties (cells_of l.lines.now) + 2

abbrev pub decreases-eye_depth : goal.decreases-eye_depth
decreases-eye_depth l = 6 * empties (cells_of l.lines.now) + 3

abbrev pub decreases-trial_depth : goal.decreases-trial_depth
decreases-trial_depth l = 6 * empties (cells_of l.lines.now) + 1

abbrev pub invariant-deepest_eye-loop-three : goal.invariant-deepest_eye-loop-three
invariant-deepest_eye-loop-three l = (l.lines ≡ l.initial.lines)
    × (l.deep ≡ deepest_below depth_of (cells_of l.initial.lines) l.code l.three)
    × ((n : ℕ) × (l.three ≡ next_from (numbered (starts_of l.threes)) n))

abbrev pub decreases-deepest_eye-loop-three : goal.decreases-deepest_eye-loop-three
decreases-deepest_eye-loop-three l = 64 - l.three
