-- What the contracts of `referee` cite beside the rules: section 5's tests as the code asks them, refusals and answers.
pub mod Referee
pub mod Answers
