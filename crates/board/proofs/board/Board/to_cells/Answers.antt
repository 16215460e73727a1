-- `board::board::Board::to_cells` meets its contract: the cells that the lines show, written out. Assumes nothing.
use Rattle.rules.proofs.Refusals.{unrefused}
use Rattle.board.proofs.board.Board.to_cells.Goals as goal

pub returns : goal.returns
returns c =
    let z = unrefused _ c.refusal.ensures c.in_ok-refusal.was in
    let e = c.cells_on-bytes.ensures in
    let k = c.hand_out.ensures in
    (rw (z, k.0, e), rw (z, k.1, e))
