-- The laws of the lists that are read off a board.

-- how long the parts of a list can be
pub mod Kept
-- what the masks of sound lines show is what the rules say of the cells
pub mod Shown
-- what no refusal says of those who ask for a list
pub mod Open
-- the points of a mask of cells
pub mod Masked
-- the count that is given with a list of rows is their number
pub mod Counts
