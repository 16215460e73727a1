-- `board::board::Board::from_cells` meets its contract: the lines are those of the bytes. Assumes nothing.
use mathlib.Core.Path.{◌∙◌}
use Rattle.rules.proofs.Refusals.{unrefused}
use Rattle.board.proofs.Given.{board_given, from-lines}
use Rattle.board.proofs.board.Board.from_cells.Goals as goal

pub returns : goal.returns
returns c =
    board_given _ (unrefused _ c.cells_refusal.ensures c.in_ok-cells_refusal.was) (c.from_lines.ensures ∙ from-lines _ c.lines_of.ensures)
