-- The laws of boards, for other crates to cite.

-- stones counted on lines, and moved by one point that changes
pub mod Counted
-- what no refusal says of a board, and what is given back where none is given
pub mod Given
-- the counts of a board: with its empty points 225, kept by a view, right on every board that is handed back
pub mod Stones
-- any sequence of calls acts as on a plain map
pub mod Mapped
-- a board turned by one view and then by another, and turned back
pub mod Turned
