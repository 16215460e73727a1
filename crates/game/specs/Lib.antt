-- What the contracts of `game` cite beside the rules: the reading of a game move by move, and the answer.
pub mod Game
pub mod Answers
