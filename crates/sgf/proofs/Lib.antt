-- The laws of SGF texts, for other crates to cite.
-- the tokens of a text, one after the other
pub mod Tokens
-- a game's tokens, three by three
pub mod Games
-- the text that is written
pub mod Texts
-- white space around tokens changes nothing
pub mod Spaces
-- a game that is written reads back, with spaces or without; what is read is what is written, but for spaces
pub mod RoundTrip
