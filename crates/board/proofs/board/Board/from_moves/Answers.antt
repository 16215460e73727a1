-- `board::board::Board::from_moves` meets its contract: the board of the cells after the moves. Assumes nothing.
use mathlib.Core.Path.{◌∙◌}
use Rattle.cells.proofs.Given.{moves-ok}
use Rattle.board.proofs.Given.{read-given}
use Rattle.board.proofs.board.Board.from_moves.Goals as goal

pub returns : goal.returns
returns c = c.read.ensures ∙ read-given _ _ c.moves_cells.ensures (moves-ok _)
