-- The laws behind the second referee.
-- walks by coordinates reach the cells of the line
pub mod Walks
-- windows counted cell by cell
pub mod Counted
-- rows counted start by start
pub mod Tallied
-- numbers made of a type that bounds them
pub mod Bounded
-- the steps of the questions
pub mod Asked
-- keys, and the first points of their lines
pub mod Keyed
-- the parts of lists
pub mod Gathered
-- what no refusal says
pub mod Opened
