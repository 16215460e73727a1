-- The laws of segments, for other crates to cite.

-- computed tests of all bytes; the tests that `matches` makes of a segment are section 4's of its window; the signed score
pub mod Segments
-- what a segment's row has left to fill are section 4's eyes of the line's row
pub mod Rows
