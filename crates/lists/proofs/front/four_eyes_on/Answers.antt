-- `lists::front::four_eyes_on` meets its contract: refused, or the list is collected, then handed out. Assumes nothing.
use mathlib.Core.Path.{◌≡◌, refl, ap, sym, ◌∙◌}
use native.Mathlib.Omega.{arith}
use borrow.Author.Rules.{rules}
use borrow.Author.Tests.{lt-ltb}
use lib.ListN.{length}
use Rattle.std.proofs.lemmas.Option.{cond_some}
use Rattle.rules.proofs.Refusals.{unrefused}
use Rattle.lent.proofs.Handed.{handed, turned_down}
use Rattle.rules.specs.Grid.{four_eyes}
use Rattle.rules.specs.declared.Player.{Player}
use Rattle.board.specs.Boards.{cells}
use Rattle.board.proofs.Given.{sound-in, for-none}
use Rattle.lists.proofs.front.four_eyes_on.Goals as goal

pub returns-in_err-refusal_for : goal.returns-in_err-refusal_for
returns-in_err-refusal_for c = turned_down 1 _ _ _ (sym c.refusal_for.ensures ∙ c.in_err-refusal_for.was) (search rules)

pub four_eyes-found-requires : goal.four_eyes-found-requires
four_eyes-found-requires c =
    let a = c.args in
    sound-in a.board (for-none a.board a.code a.colour (unrefused _ c.refusal_for.ensures c.in_ok-refusal_for.was)).0

pub unwrap-code-requires : goal.unwrap-code-requires
unwrap-code-requires c =
    let a = c.args in
    let (none, point) = for-none a.board a.code a.colour (unrefused _ c.refusal_for.ensures c.in_ok-refusal_for.was) in
    rw (c.new.ensures, lt-ltb a.code 225 point) refl

pub returns : goal.returns
returns c =
    let a = c.args in
    let listed = c.as_slice.ensures.value in
    let point : c.unwrap-code.result ≡ a.code = sym (cond_some _ _ _ (sym c.new.ensures ∙ c.unwrap-code.ensures)).1 in
    let found = rw point at c.four_eyes-found.ensures in
    handed 1 _ _ _ (unrefused _ c.refusal_for.ensures c.in_ok-refusal_for.was)
    (listed ∙ found ∙ ap (λ (r : Player). four_eyes r (cells a.board) a.code) c.or_white.ensures)
    (omega (arith, c.len.ensures.value, ap length listed)) c.hand_out.ensures
