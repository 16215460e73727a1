-- The laws of the stored lines, for other crates to cite.

-- a write on the lines of cells, the cells read back, and any sequence of puts and removes
pub mod Lines
-- sound lines are those of section 1's wording, and no others
pub mod Agreed
-- the test that lines are the same, which decides soundness
pub mod Same
-- a stone set or taken off in the masks of its own colour alone
pub mod Marked
-- on sound lines the starts of rows through a point are those of the rules
pub mod RowStarts
-- on sound lines the masks through a point show the stones of the cells
pub mod ThroughPoint
-- what an address tells of a write, a mark, masks and starts
pub mod Placed
-- lines built by the table of addresses are the lines of the cells
pub mod Built
