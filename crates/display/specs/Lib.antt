-- What the contracts of `display` cite: the answers, and the texts.
pub mod Answers
pub mod Texts
