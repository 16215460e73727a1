-- `cells::front::empty_points_of` meets its contract: the points whose cell is 0. Assumes nothing.
use mathlib.Core.Path.{ap, sym, ◌∙◌}
use lib.ListN.{length}
use Rattle.rules.proofs.Refusals.{unrefused}
use Rattle.cells.proofs.Kept.{handed_codes, empty_list}
use Rattle.cells.proofs.front.empty_points_of.Goals as goal

pub returns : goal.returns
returns c =
    let none = unrefused _ c.cells_refusal.ensures c.in_ok-cells_refusal.was in
    let listed = c.as_slice.ensures.value in
    handed_codes _ _ _ none (listed ∙ c.points_with-found.ensures ∙ empty_list c.args.cells.now none) (c.len.ensures.value ∙ sym (ap length listed))
    c.hand_out.ensures
