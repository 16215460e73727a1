-- The laws of a refereed game.

-- the reason of a move by its tests; a turn of the loop that reads a game, and its end
pub mod Read
-- with no fault the board is that of the moves; a fault at n means that moves 1 to n − 1 have none, and why it is one
pub mod Faults
-- the report of the moves in a view is the same report with the board turned
pub mod Viewed
-- the board of an answer is sound and has the report's cells
pub mod Given
