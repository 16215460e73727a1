-- `board::board::Board::put` meets its contract: on sound lines a put sets the cell, and the counts move by what stood there. Assumes
-- nothing.
use mathlib.Core.Path.{◌∙◌, ap}
use Rattle.rules.specs.Grid.{put}
use Rattle.rules.specs.declared.Player.{Player}
use Rattle.rules.proofs.Refusals.{unrefused}
use Rattle.board.specs.Boards.{cells, board_of}
use Rattle.board.proofs.Given.{board_given, changed-board, for-none}
use Rattle.board.proofs.board.Board.put.Goals as goal

pub returns : goal.returns
returns c =
    let a = c.args in
    let z = unrefused _ c.refusal_for.ensures c.in_ok-refusal_for.was in
    let (none, hp) = for-none a.self a.code a.colour z in
    board_given _ z
    (c.with_lines.ensures
    ∙ changed-board a.self a.code _ none hp c.put_on.ensures c.cell_on-before.ensures c.number.ensures
    ∙ ap (λ (r : Player). board_of (put r (cells a.self) a.code)) c.or_white-player.ensures)
