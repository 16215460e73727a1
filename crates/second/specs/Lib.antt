-- What the contracts of the second referee cite beside the rules.
pub mod Walk
pub mod Count
pub mod Lists
