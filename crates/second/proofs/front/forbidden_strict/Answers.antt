-- `second::front::forbidden_strict` meets its contract: refused, or asked of the board of the cells. Assumes nothing.
use Rattle.rules.specs.Answers.{answer}
use Rattle.rules.proofs.Refusals.{unrefused}
use Rattle.cells.proofs.Given.{cells-at-in}
use Rattle.second.proofs.Bounded.{made, made-is}
use Rattle.second.proofs.front.forbidden_strict.Goals as goal

pub board_of-board-requires : goal.board_of-board-requires
board_of-board-requires c =
    let a = c.args in
    (cells-at-in a.cells.now a.code (unrefused _ c.cells_refusal_at.ensures c.in_ok-cells_refusal_at.was)).0

pub unwrap-requires : goal.unwrap-requires
unwrap-requires c =
    let a = c.args in
    made 225 _ c.new.ensures (cells-at-in a.cells.now a.code (unrefused _ c.cells_refusal_at.ensures c.in_ok-cells_refusal_at.was)).1

pub strict-requires : goal.strict-requires
strict-requires c =
    let a = c.args in
    rw c.board_of-board.ensures (cells-at-in a.cells.now a.code (unrefused _ c.cells_refusal_at.ensures c.in_ok-cells_refusal_at.was)).0

pub returns : goal.returns
unfolding answer
returns c =
    let z = unrefused _ c.cells_refusal_at.ensures c.in_ok-cells_refusal_at.was in
    rw (z, c.strict.ensures.0, c.board_of-board.ensures, made-is 225 _ c.new.ensures c.unwrap.ensures)
