-- The laws of the host interface.

-- the numbers of all that is refused
pub mod Named
-- the one number of an answer
pub mod Words
-- a question asked of cell bytes is asked of their board
pub mod Asked
-- the fast referee and the second one are equal, by their contracts
pub mod Equal
-- a game's report handed out, byte by byte
pub mod Handed
-- cells turned by one view and then by another, turned back, and their canonical form, of the calls
pub mod Turned
