-- What the contracts of `mending` cite.
pub mod Mending
