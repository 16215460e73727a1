-- What the contracts of `renju` cite beside the rules.
pub mod Answers
pub mod Feeds
pub mod Games
