-- The laws behind `display`, for other crates to cite.
-- texts written one behind the other
pub mod Writing
-- the cells that are written one step after the other
pub mod Steps
-- a turn of a loop that writes
pub mod Turns
-- how long the texts are
pub mod Sizes
-- which bytes and which cells they show
pub mod Shown
-- cells and boards read back as they were written
pub mod ReadBack
-- the numbered diagram does not read back
pub mod Unread
-- points and lists of points read back
pub mod PointBack
-- lines read back
pub mod LineBack
