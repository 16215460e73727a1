-- The laws of lines, for other crates to cite.

-- a line that is handed back is sound; its lists of windows, their counts and their length
pub mod Lines
-- the rows of a line stand where `matches` says so of its segments
pub mod Matches
