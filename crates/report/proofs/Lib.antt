-- The laws behind `report`.
-- how long the lines of a listing are
pub mod Words
-- what is refused of a text is told by its name
pub mod Named
-- the list that the referee writes, and its lines
pub mod Listed
