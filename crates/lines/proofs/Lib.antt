-- The laws of copied lines.

-- what is copied where nothing is refused: the line of the right cells
pub mod Copied
