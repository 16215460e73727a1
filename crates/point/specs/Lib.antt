-- What the contracts of `point` cite beside the rules: answers, points and indexes with their refusals, places.
pub mod Answers
pub mod Points
pub mod Places
