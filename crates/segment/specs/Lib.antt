-- What the contracts of `segment` cite beside the rules: segments and rows as values.
pub mod Segments
pub mod Rows
