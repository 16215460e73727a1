-- `second::front::forbidden` meets its contract: refused, or asked of the board of the cells. Assumes nothing.
use Rattle.rules.specs.Answers.{answer}
use Rattle.rules.proofs.Refusals.{unrefused}
use Rattle.second.proofs.Bounded.{made, made-is}
use Rattle.second.proofs.Opened.{forbidden-open}
use Rattle.second.proofs.front.forbidden.Goals as goal

pub board_of-board-requires : goal.board_of-board-requires
board_of-board-requires c =
    let a = c.args in
    (forbidden-open a.cells.now a.code (unrefused _ c.forbidden_refusal.ensures c.in_ok-forbidden_refusal.was)).0

pub unwrap-requires : goal.unwrap-requires
unwrap-requires c =
    let a = c.args in
    let (_, on, _) = forbidden-open a.cells.now a.code (unrefused _ c.forbidden_refusal.ensures c.in_ok-forbidden_refusal.was) in
    made 225 _ c.new.ensures on

pub plain-requires : goal.plain-requires
plain-requires c =
    let a = c.args in
    let (cells, _, free) = forbidden-open a.cells.now a.code (unrefused _ c.forbidden_refusal.ensures c.in_ok-forbidden_refusal.was) in
    rw (c.board_of-board.ensures, made-is 225 _ c.new.ensures c.unwrap.ensures) (cells, free)

pub returns : goal.returns
unfolding answer
returns c =
    let z = unrefused _ c.forbidden_refusal.ensures c.in_ok-forbidden_refusal.was in
    rw (z, c.plain.ensures.0, c.board_of-board.ensures, made-is 225 _ c.new.ensures c.unwrap.ensures)
