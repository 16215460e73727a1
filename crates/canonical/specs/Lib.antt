-- What the contracts of `canonical` cite beside the rules.
pub mod Canonical
