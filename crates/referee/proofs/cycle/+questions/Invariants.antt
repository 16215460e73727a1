-- The six functions of the cycle meet their contracts. What falls at each call is six times the number of empty points, and a little:
-- on one board `two_real` 6, `open_asked` 5, `is_real` 4, `strict_by` 3, `plain` 2, `trial` 1. Assumes nothing.
use mathlib.Core.Path.{◌≡◌}
use lib.Dec.{T}
use Rattle.rules.specs.Grid.{empties, starts_of, rows_through, numbered}
use Rattle.rules.specs.declared.Player.TheVariants.{Black}
use Rattle.rules.specs.declared.RowKind.TheVariants.{Three}
use Rattle.grid.specs.Lines.{cells_of}
use Rattle.referee.specs.Referee.{KnownOf}
use Rattle.referee.proofs.Told.{Walked}
use Prim.Native.Nat.{ℕ, ◌+◌, ◌-◌, ◌*◌, ◌/◌, ◌%◌, ◌<◌}
use Rattle.referee.proofs.cycle.+questions.Given as goal

abbrev pub decreases-is_real : goal.decreases-is_real
decreases-is_real l = 6 * empties (cells_of l.lines.now) + 4

abbrev pub decreases-open_asked : goal.decreases-open_asked
decreases-open_asked l = 6 * empties (cells_of l.lines.now) + 5

abbrev pub decreases-plain : goal.decreases-plain
decreases-plain l = 6 * empties (cells_of l.lines.now) + 2

abbrev pub decreases-strict_by : goal.decreases-strict_by
decreases-strict_by l = 6 * empties (cells_of l.lines.now) + 3

abbrev pub decreases-trial : goal.decreases-trial
decreases-trial l = 6 * empties (cells_of l.lines.now) + 1

abbrev pub decreases-two_real : goal.decreases-two_real
decreases-two_real l = 6 * empties (cells_of l.lines.now) + 6

abbrev pub invariant-open_asked-loop-three : goal.invariant-open_asked-loop-three
invariant-open_asked-loop-three l = (l.lines ≡ l.initial.lines)
    × KnownOf (cells_of l.initial.lines) l.code l.known.sure l.known.left
    × (l.three < 64 → T (numbered (starts_of l.rest) l.three))
    × ((k : ℕ) → k < 64 → T (numbered (starts_of l.rest) k) → T (rows_through Black Three (cells_of l.initial.lines) l.code (k / 16) (k % 16)))
    × Walked l.rest l.known.sure l.known.left l.three

abbrev pub decreases-open_asked-loop-three : goal.decreases-open_asked-loop-three
decreases-open_asked-loop-three l = 64 - l.three
