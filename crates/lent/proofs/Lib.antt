-- The laws behind `lent`, for other crates to cite.
-- lists kept in a local buffer and written to a lent one
pub mod Laws
-- the first byte that passes a test
pub mod Found
-- a list that is handed out with a count
pub mod Handed
-- a list in the front of a local buffer, with zeros behind it
pub mod Spare
