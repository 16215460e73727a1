-- What the contracts of `cells` cite beside the rules: cells and their refusals, cells after calls, and stones counted.
pub mod Cells
pub mod Turned
pub mod Calls
pub mod Counts
