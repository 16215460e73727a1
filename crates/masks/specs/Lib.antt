-- What the contracts of `masks` cite beside the rules.
pub mod Masks
