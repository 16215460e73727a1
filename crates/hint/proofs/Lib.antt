-- The laws of `hint`.
pub mod Bounded
pub mod OneLine
pub mod Stone
pub mod Picked
pub mod Winning
pub mod Planned
pub mod Swords
pub mod Quiet
pub mod Gaps
pub mod Asked
pub mod OnLines
pub mod Attacks
pub mod Checked
pub mod Searched
pub mod Lined
pub mod Marks
pub mod Fronts
