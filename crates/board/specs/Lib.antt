-- What the contracts of `board` cite beside the rules: boards as values, with their refusals, and the answers; and calls in sequence.
pub mod Boards
pub mod Answers
pub mod Calls
