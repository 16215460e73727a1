-- `board::board::Board::turned` meets its contract: the lines of the turned cells. Assumes nothing.
use mathlib.Core.Path.{◌∙◌, ap}
use Rattle.rules.proofs.Refusals.{unrefused, none_first}
use Rattle.board.proofs.Given.{board_given, from-lines}
use Rattle.board.proofs.board.Board.turned.Goals as goal

pub returns : goal.returns
returns c =
    let z = unrefused _ c.refusal.ensures c.in_ok-refusal.was in
    let y = unrefused _ c.view_refusal.ensures c.in_ok-view_refusal.was in
    board_given _ (none_first _ _ z y) (c.from_lines.ensures ∙ from-lines _ (rw (c.lines_of.ensures, c.turned_cells-turned_to.ensures, c.cells_on-bytes.ensures)))
