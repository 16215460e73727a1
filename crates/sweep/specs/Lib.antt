-- What the contracts of `sweep` cite beside the rules.
pub mod Marks
