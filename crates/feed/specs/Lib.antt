-- What the contracts of `feed` cite, and the model of the line that its laws speak of.
pub mod Feed
pub mod Compare
pub mod Runs
