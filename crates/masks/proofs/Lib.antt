-- The laws of the masks of a line, for other crates to cite.

-- the masks that the code computes are the masks of section 4's tests, cell by cell
pub mod Windows
-- the lowest set bit of a mask; two starts that are two or more apart, by what is left past the lowest
pub mod Lowest
-- the windows that pass a test and hold two, three or four stones, by two binary digits of their count, at any width
pub mod Held
