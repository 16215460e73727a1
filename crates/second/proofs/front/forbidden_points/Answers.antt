-- `second::front::forbidden_points` meets its contract: refused, or the list is collected, then handed out. Assumes nothing.
use mathlib.Core.Path.{ap, sym, ◌∙◌}
use native.Mathlib.Omega.{arith}
use borrow.Author.Rules.{rules}
use lib.ListN.{length}
use Rattle.rules.proofs.Refusals.{unrefused}
use Rattle.lent.proofs.Handed.{handed, turned_down}
use Rattle.rules.specs.Forbidden.{forbidden_list}
use Rattle.cells.proofs.Given.{cells_in}
use Rattle.second.proofs.front.forbidden_points.Goals as goal

pub returns-in_err-cells_refusal : goal.returns-in_err-cells_refusal
returns-in_err-cells_refusal c = turned_down 2 _ _ _ (sym c.cells_refusal.ensures ∙ c.in_err-cells_refusal.was) (search rules)

pub board_of-board-requires : goal.board_of-board-requires
board_of-board-requires c =
    let a = c.args in
    cells_in a.cells.now (unrefused _ c.cells_refusal.ensures c.in_ok-cells_refusal.was)

pub forbidden_pairs-found-requires : goal.forbidden_pairs-found-requires
forbidden_pairs-found-requires c =
    let a = c.args in
    rw c.board_of-board.ensures (cells_in a.cells.now (unrefused _ c.cells_refusal.ensures c.in_ok-cells_refusal.was))

pub returns : goal.returns
returns c =
    let listed = c.as_slice.ensures.value in
    handed 2 _ _ _ (unrefused _ c.cells_refusal.ensures c.in_ok-cells_refusal.was) (listed ∙ c.forbidden_pairs-found.ensures ∙ ap forbidden_list c.board_of-board.ensures)
    (omega (arith, c.len.ensures.value, ap length listed)) c.hand_out.ensures
