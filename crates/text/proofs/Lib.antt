-- The laws behind `text`, for other crates to cite.
-- what an answer says where it is given, and where it is refused
pub mod Told
-- a text trimmed, a byte in it, the parts between a byte
pub mod Places
-- the cells of a line, one byte a turn
pub mod Dense
-- a line in text: the masks of its first cells
pub mod Marks
-- a point in text, and a comma list, one item a turn
pub mod Items
-- which texts name a point, said plainly
pub mod Named
-- a text with no slash and no comma is one move
pub mod Lone
-- a diagram, one cell and one line a turn
pub mod Lined
-- what is given back of a text
pub mod Said
-- what a text says are cells of a sound board
pub mod Sound
