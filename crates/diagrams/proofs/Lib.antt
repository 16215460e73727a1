-- The laws behind `diagrams`, for other crates to cite.
-- a board's own stones, put one after the other, give the board
pub mod Own
-- how long a side's text is, and that it is written where there is room
pub mod Sides
-- what the converter writes is read by the live entry as the same board
pub mod LiveBack
