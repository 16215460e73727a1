-- `lists::front::rows` meets its contract: refused, or the list is collected, then handed out. Assumes nothing.
use mathlib.Core.Path.{ap, ap₂, sym, ◌∙◌}
use native.Mathlib.Omega.{arith}
use borrow.Author.Rules.{rules}
use lib.ListN.{length}
use Rattle.rules.proofs.Refusals.{unrefused}
use Rattle.lent.proofs.Handed.{handed, turned_down}
use Rattle.rules.specs.Grid.{rows_of}
use Rattle.rules.specs.declared.Player.{Player}
use Rattle.rules.specs.declared.RowKind.{RowKind}
use Rattle.board.specs.Boards.{cells}
use Rattle.lists.proofs.Open.{rows-open}
use Rattle.lists.proofs.front.rows.Goals as goal

pub returns-in_err-rows_refusal : goal.returns-in_err-rows_refusal
returns-in_err-rows_refusal c = turned_down 4 _ _ _ (sym c.rows_refusal.ensures ∙ c.in_err-rows_refusal.was) (search rules)

pub all_rows-found-requires : goal.all_rows-found-requires
all_rows-found-requires c =
    let a = c.args in
    rows-open a.board a.colour a.kind (unrefused _ c.rows_refusal.ensures c.in_ok-rows_refusal.was)

pub returns : goal.returns
returns c =
    let a = c.args in
    let listed = c.as_slice.ensures.value in
    handed 4 _ _ _ (unrefused _ c.rows_refusal.ensures c.in_ok-rows_refusal.was)
    (listed ∙ c.all_rows-found.ensures ∙ ap₂ (λ (r : Player) (k : RowKind). rows_of r k (cells a.board)) c.or_white.ensures c.or_overlined.ensures)
    (omega (arith, c.len.ensures.value, ap length listed)) c.hand_out.ensures
