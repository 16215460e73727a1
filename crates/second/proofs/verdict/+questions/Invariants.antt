-- The six functions of the cycle meet their contracts. What falls at each call is six times the number of empty points, and a little: on
-- one board `count_real` 6, `count_real_along` 5, `is_real` 4, `strict_by` 3, `plain` 2, `is_double_three` 1. Assumes nothing.
use mathlib.Core.Path.{◌≡◌}
use Prim.Native.Nat.{◌+◌, ◌*◌}
use Rattle.rules.specs.Grid.{empties}
use Rattle.rules.specs.Forbidden.{real_threes, strict_of}
use Rattle.second.proofs.Tallied.{Seen}
use Rattle.second.proofs.verdict.+questions.Given as goal

abbrev pub decreases-count_real : goal.decreases-count_real
decreases-count_real l = 6 * empties l.board.now + 6

abbrev pub decreases-count_real_along : goal.decreases-count_real_along
decreases-count_real_along l = 6 * empties l.board.now + 5

abbrev pub decreases-is_double_three : goal.decreases-is_double_three
decreases-is_double_three l = 6 * empties l.board.now + 1

abbrev pub decreases-is_real : goal.decreases-is_real
decreases-is_real l = 6 * empties l.board.now + 4

abbrev pub decreases-plain : goal.decreases-plain
decreases-plain l = 6 * empties l.board.now + 2

abbrev pub decreases-strict_by : goal.decreases-strict_by
decreases-strict_by l = 6 * empties l.board.now + 3

abbrev pub invariant-count_real_along-loop-j : goal.invariant-count_real_along-loop-j
invariant-count_real_along-loop-j l = (l.board ≡ l.initial.board) × Seen (real_threes strict_of l.initial.board l.code l.d) l.j l.first
