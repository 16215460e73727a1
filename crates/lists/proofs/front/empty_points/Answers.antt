-- `lists::front::empty_points` meets its contract: refused, or asked of the cells that the board shows. Assumes nothing.
use mathlib.Core.Path.{ap, sym, ◌∙◌}
use borrow.Author.Rules.{rules}
use Rattle.rules.proofs.Refusals.{unrefused}
use Rattle.lent.proofs.Handed.{turned_down}
use Rattle.rules.specs.Grid.{empty_points}
use Rattle.cells.specs.Cells.{cells_refusal}
use Rattle.lists.proofs.Open.{asked-list, cells-asked}
use Rattle.lists.proofs.front.empty_points.Goals as goal

pub returns-in_err-refusal : goal.returns-in_err-refusal
returns-in_err-refusal c =
    let a = c.args in
    turned_down 1 _ _ _ (sym c.refusal.ensures ∙ c.in_err-refusal.was) (search rules)

pub returns : goal.returns
returns c =
    let a = c.args in
    let shown = c.cells_on-cells.ensures in
    let none = unrefused _ c.refusal.ensures c.in_ok-refusal.was in
    asked-list a.out.now (ap cells_refusal shown ∙ cells-asked a.board none) (ap empty_points shown) c.empty_points_of.ensures
