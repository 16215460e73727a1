-- `board::board::Board::from_stones` meets its contract: the board of the cells with the stones. Assumes nothing.
use mathlib.Core.Path.{◌∙◌}
use Rattle.cells.proofs.Given.{stones-ok}
use Rattle.board.proofs.Given.{read-given}
use Rattle.board.proofs.board.Board.from_stones.Goals as goal

pub returns : goal.returns
returns c = c.read.ensures ∙ read-given _ _ c.stones_cells.ensures (stones-ok _ _)
