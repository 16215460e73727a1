-- The laws of points and places, for other crates to cite.

-- a direction's number and its case in the code make the same choice of four
pub mod Ways
-- a place's key, cell and size are those of the line through the point; a place is given exactly where that line is stored
pub mod Stored
-- what is known of a point, a line or an index that is not refused
pub mod Refused
-- a number over 7 is sent where view 7 sends
pub mod Viewed
-- one view after another, of the calls: a point turned twice, and turned back
pub mod Followed
-- steps that may be negative: the cell that they reach, and the index there
pub mod Steps
