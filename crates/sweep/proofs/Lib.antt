-- The laws of marks, for other crates to cite.

-- what marks say of each point; masks that say something of a row's points; marks written mask by mask, and code by code
pub mod Marks
-- where the mark of the k-th point after a point on its line stands, and of the k-th before it
mod Steps
-- windows and rows by the point where they start
mod Starts
-- the rows through a point, from the marks of the points where rows start
mod Meeting
-- the marks of a board's cells are the points to ask about
mod Board
