-- What the contracts of `depth` cite beside the rules: the depth and the verdict as one answer.
pub mod Answers
