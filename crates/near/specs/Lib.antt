-- What the contracts of `near` cite beside the rules.
pub mod Places
pub mod Windows
pub mod Rows
