-- What the contracts of `hint` cite beside the rules: the game and the check, the planner, the refusals; what the code sees.
pub mod Hint
pub mod Planner
pub mod Refused
pub mod Seen
