-- The laws behind `mending`.

-- lists in which no code stands twice; there are at most 225 points
pub mod Once
-- the moves that are kept are those that were read before the first repeat
pub mod Moves
-- how long the two lines are
pub mod Sizes
-- THE THEOREMS: no point twice; mended again all is kept; the live entry reads a board with as many stones
pub mod MendedLists
