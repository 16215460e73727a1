-- What the contracts of `stored` cite beside the rules: fields, and records of two of them.
pub mod Fields
pub mod Records
