-- The laws of the canonical form, for other crates to cite.

-- byte lists in order
pub mod Ordered
-- the canonical form is a turn of the board and the least, by the smallest view; and it is the same in all eight views
pub mod Eight
