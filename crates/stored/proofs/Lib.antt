-- The laws of stored games, for other crates to cite.

-- a field that is written reads back, and bytes with a field in front are that field and what is behind it
pub mod Fields
-- what is known of moves and records that are not refused; a record that is written, as it is read
pub mod Records
-- old to new to old, new to old to new; what is written is read, and what is read is what is written
pub mod RoundTrip
-- .. of calls: what one leaves in its buffer, handed to the next
pub mod Calls
