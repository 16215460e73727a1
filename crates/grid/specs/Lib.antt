-- What the contracts of `grid` cite beside the rules: the stored lines, and section 1's wording of what sound ones are.
pub mod Lines
pub mod Agreed
