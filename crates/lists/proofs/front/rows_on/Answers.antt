-- `lists::front::rows_on` meets its contract: refused, or the list is collected, then handed out. Assumes nothing.
use mathlib.Core.Path.{◌≡◌, refl, ap, ap₂, sym, ◌∙◌}
use native.Mathlib.Omega.{arith}
use borrow.Author.Rules.{rules}
use borrow.Author.Tests.{lt-ltb}
use lib.ListN.{length}
use Rattle.std.proofs.lemmas.Option.{cond_some}
use Rattle.rules.proofs.Refusals.{unrefused}
use Rattle.lent.proofs.Handed.{handed, turned_down}
use Rattle.rules.specs.Grid.{rows_on_point}
use Rattle.rules.specs.declared.Player.{Player}
use Rattle.rules.specs.declared.RowKind.{RowKind}
use Rattle.board.specs.Boards.{cells}
use Rattle.board.proofs.Given.{rows-on-in}
use Rattle.lists.proofs.front.rows_on.Goals as goal

pub returns-in_err-rows_on_refusal : goal.returns-in_err-rows_on_refusal
returns-in_err-rows_on_refusal c = turned_down 4 _ _ _ (sym c.rows_on_refusal.ensures ∙ c.in_err-rows_on_refusal.was) (search rules)

pub rows_through-found-requires : goal.rows_through-found-requires
rows_through-found-requires c =
    let a = c.args in
    (rows-on-in a.board a.code a.colour a.kind (unrefused _ c.rows_on_refusal.ensures c.in_ok-rows_on_refusal.was)).0

pub unwrap-code-requires : goal.unwrap-code-requires
unwrap-code-requires c =
    let a = c.args in
    let point = (rows-on-in a.board a.code a.colour a.kind (unrefused _ c.rows_on_refusal.ensures c.in_ok-rows_on_refusal.was)).1 in
    rw (c.new.ensures, lt-ltb a.code 225 point) refl

pub returns : goal.returns
returns c =
    let a = c.args in
    let listed = c.as_slice.ensures.value in
    let point : c.unwrap-code.result ≡ a.code = sym (cond_some _ _ _ (sym c.new.ensures ∙ c.unwrap-code.ensures)).1 in
    let found = rw point at c.rows_through-found.ensures in
    handed 4 _ _ _ (unrefused _ c.rows_on_refusal.ensures c.in_ok-rows_on_refusal.was)
    (listed ∙ found ∙ ap₂ (λ (r : Player) (k : RowKind). rows_on_point r k (cells a.board) a.code) c.or_white.ensures c.or_overlined.ensures)
    (omega (arith, c.len.ensures.value, ap length listed)) c.hand_out.ensures
