-- What the contracts of `lines` cite beside the rules: copied lines.
pub mod Copies
