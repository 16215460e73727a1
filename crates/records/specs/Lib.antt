-- What the contracts of `records` cite.
pub mod Answers
pub mod Bytes
pub mod Records
pub mod Tallies
