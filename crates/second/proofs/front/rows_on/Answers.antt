-- `second::front::rows_on` meets its contract: refused, or the list is collected, then handed out. Assumes nothing.
use mathlib.Core.Path.{ap, sym, ◌∙◌}
use native.Mathlib.Omega.{arith}
use borrow.Author.Rules.{rules}
use lib.ListN.{length}
use Rattle.rules.proofs.Refusals.{unrefused}
use Rattle.lent.proofs.Handed.{handed, turned_down}
use Rattle.second.proofs.Bounded.{made, made-is}
use Rattle.second.proofs.Opened.{rows-on-open}
use Rattle.second.proofs.front.rows_on.Goals as goal

pub returns-in_err-rows_refusal_at : goal.returns-in_err-rows_refusal_at
returns-in_err-rows_refusal_at c = turned_down 4 _ _ _ (sym c.rows_refusal_at.ensures ∙ c.in_err-rows_refusal_at.was) (search rules)

pub board_of-board-requires : goal.board_of-board-requires
board_of-board-requires c =
    let a = c.args in
    (rows-on-open a.cells.now a.code a.colour a.kind (unrefused _ c.rows_refusal_at.ensures c.in_ok-rows_refusal_at.was)).0

pub unwrap-requires : goal.unwrap-requires
unwrap-requires c =
    let a = c.args in
    let z = unrefused _ c.rows_refusal_at.ensures c.in_ok-rows_refusal_at.was in
    made 225 _ c.new.ensures (rows-on-open a.cells.now a.code a.colour a.kind z).1

pub returns : goal.returns
returns c =
    let listed = c.as_slice.ensures.value in
    let z = unrefused _ c.rows_refusal_at.ensures c.in_ok-rows_refusal_at.was in
    let is = made-is 225 _ c.new.ensures c.unwrap.ensures in
    handed 4 _ _ _ z (listed ∙ c.point_rows-found.ensures ∙ rw (is, c.or_white.ensures, c.or_overlined.ensures, c.board_of-board.ensures))
    (omega (arith, c.len.ensures.value, ap length listed)) c.hand_out.ensures
