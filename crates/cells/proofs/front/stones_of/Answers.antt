-- `cells::front::stones_of` meets its contract: the points that hold the colour's number. Assumes nothing.
use mathlib.Core.Path.{◌≡◌, ap, sym, ◌∙◌}
use lib.ListN.{length}
use borrow.Author.Rules.{rules}
use Rattle.rules.specs.Numbers.{colour_no}
use Rattle.rules.specs.Refusals.{first, colour_refusal}
use Rattle.rules.specs.Answers.{checked}
use Rattle.rules.specs.Grid.{stones_of}
use Rattle.rules.proofs.Refusals.{none_first, unrefused}
use Rattle.cells.specs.Cells.{cells_refusal, cells_stones_refusal, value_list}
use Rattle.cells.proofs.Kept.{handed_codes, refused_codes}
use Rattle.cells.proofs.front.stones_of.Goals as goal

pub returns-in_err-colour_refusal : goal.returns-in_err-colour_refusal
unfolding first cells_stones_refusal
returns-in_err-colour_refusal c =
    let a = c.args in
    let none = unrefused (cells_refusal a.cells.now) c.cells_refusal.ensures c.in_ok-cells_refusal.was in
    let told : checked (cells_stones_refusal a.cells.now a.colour) ≡ checked (colour_refusal a.colour) = rw none in
    refused_codes _ _ _ (told ∙ sym c.colour_refusal.ensures ∙ c.in_err-colour_refusal.was) (search rules)

pub returns : goal.returns
unfolding value_list stones_of cells_stones_refusal
returns c =
    let none = none_first _ _ (unrefused _ c.cells_refusal.ensures c.in_ok-cells_refusal.was)
    (unrefused _ c.colour_refusal.ensures c.in_ok-colour_refusal.was) in
    let listed = c.as_slice.ensures.value in
    let found = c.points_with-found.ensures ∙ ap (value_list c.args.cells.now) (c.number.ensures ∙ ap colour_no c.or_white.ensures) in
    handed_codes _ _ _ none (listed ∙ found) (c.len.ensures.value ∙ sym (ap length listed)) c.hand_out.ensures
