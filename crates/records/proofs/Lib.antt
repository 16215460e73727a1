-- The laws of a record's fields, for other crates to cite.
pub mod Laws
