-- What the contracts of `lent` cite.
pub mod Lists
pub mod Slices
