-- What the contracts of `lists` cite beside the rules: the parts of the lists and the refusals.
pub mod Lists
