-- `board::board::Board::row_starts_on` meets its contract: on sound lines these are the rows through the point. Assumes nothing.
use Rattle.rules.proofs.Refusals.{unrefused}
use Rattle.rules.specs.Answers.{answer}
use Rattle.board.proofs.Given.{rows-on-in}
use Rattle.grid.proofs.RowStarts.{starts-masks}
use Rattle.board.proofs.board.Board.row_starts_on.Goals as goal

pub returns : goal.returns
unfolding answer
returns c =
    let a = c.args in
    let z = unrefused _ c.rows_on_refusal.ensures c.in_ok-rows_on_refusal.was in
    let h = rows-on-in a.self a.code a.colour a.kind z in
    rw (z, c.row_starts_on.ensures, c.or_overlined.ensures, c.or_white.ensures, starts-masks _ _ a.self.lines a.code h.0 h.1)
