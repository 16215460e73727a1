-- The laws of cells, for other crates to cite.

-- what cells stay, and what no refusal says of them
pub mod Given
-- tables filled from the front, as a loop does it
pub mod Filled
-- lists that are collected, and handed out: their turns, how long they can be
pub mod Kept
-- any sequence of calls acts as on a plain map
pub mod Mapped
-- a turned board, column by column
pub mod Stepped
-- stones counted: one cell changed, the eight views, all 225 points
pub mod Counts
