-- `board::board::Board::remove` meets its contract: on sound lines a remove empties the cell, and the counts move by what stood there.
-- Assumes nothing.
use mathlib.Core.Path.{◌∙◌, refl}
use Rattle.rules.proofs.Refusals.{unrefused}
use Rattle.board.proofs.Given.{board_given, changed-board, at_none}
use Rattle.board.proofs.board.Board.remove.Goals as goal

pub returns : goal.returns
returns c =
    let a = c.args in
    let z = unrefused _ c.refusal_at.ensures c.in_ok-refusal_at.was in
    let (none, hp) = at_none a.self a.code z in
    board_given _ z (c.with_lines.ensures ∙ changed-board a.self a.code 0 none hp c.remove_on.ensures c.cell_on-before.ensures refl)
