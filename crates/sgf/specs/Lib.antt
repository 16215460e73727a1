-- What the contracts of `sgf` cite beside the rules: the tokens of a text, and the game that they say.
pub mod Tokens
pub mod Games
