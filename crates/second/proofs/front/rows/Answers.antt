-- `second::front::rows` meets its contract: refused, or the list is collected, then handed out. Assumes nothing.
use mathlib.Core.Path.{ap, sym, ◌∙◌}
use native.Mathlib.Omega.{arith}
use borrow.Author.Rules.{rules}
use lib.ListN.{length}
use Rattle.rules.proofs.Refusals.{unrefused}
use Rattle.lent.proofs.Handed.{handed, turned_down}
use Rattle.second.proofs.Opened.{rows-open}
use Rattle.second.proofs.front.rows.Goals as goal

pub returns-in_err-rows_refusal : goal.returns-in_err-rows_refusal
returns-in_err-rows_refusal c = turned_down 4 _ _ _ (sym c.rows_refusal.ensures ∙ c.in_err-rows_refusal.was) (search rules)

pub board_of-board-requires : goal.board_of-board-requires
board_of-board-requires c =
    let a = c.args in
    rows-open a.cells.now a.colour a.kind (unrefused _ c.rows_refusal.ensures c.in_ok-rows_refusal.was)

pub returns : goal.returns
returns c =
    let listed = c.as_slice.ensures.value in
    handed 4 _ _ _ (unrefused _ c.rows_refusal.ensures c.in_ok-rows_refusal.was) (listed ∙ c.all_rows.ensures ∙ rw (c.or_white.ensures, c.or_overlined.ensures, c.board_of-board.ensures))
    (omega (arith, c.len.ensures.value, ap length listed)) c.hand_out.ensures
