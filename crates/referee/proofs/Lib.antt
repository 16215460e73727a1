-- The laws of the referee.

-- a player's rows by the masks of the four lines are those of the cells; section 5's order by Black's start masks is the verdict
pub mod RowsSeen
-- the eye of a Three is found on sound lines, and each number on the way fits a byte; the rows through it tell whether the Three is real
pub mod EyeFound
-- what is known of the Threes through a stone: by what was found of one, by a look at its eye, and in the end
pub mod Told
-- the line through a point, read off the cells from its last cell back
pub mod Backward
-- the strict question on sound lines: the cell at the point; the trial stone put and taken off
pub mod Asked
-- where a stone may be tried for a verdict: by the cell at the point, by the tests that need no trial, by the refusal
pub mod Rulings
-- where the sweep has no mark the verdict is none: whole columns may be passed over
pub mod Swept
-- the refusals of a question on a board: what none says, and each by its tests
pub mod Ruled
-- the eight views of what the referee answers on a board
pub mod Seen
-- the trial stone on a lent board: where it may be put, and that the board is as it was
pub mod Trial
-- a number that was made a bounded one, and an answer that is not refused
pub mod Bounded
