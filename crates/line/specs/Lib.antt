-- What the contracts of `line` cite beside the rules: the lists, and lines as values.
pub mod Lists
pub mod Lines
