-- What the contracts of `text` cite.
pub mod Bytes
pub mod Points
pub mod Lines
pub mod Reading
pub mod Rows
