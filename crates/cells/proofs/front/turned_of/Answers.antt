-- `cells::front::turned_of` meets its contract: the view is refused after the cells. Assumes nothing.
use mathlib.Core.Path.{◌≡◌, sym, ◌∙◌}
use borrow.Author.Rules.{rules}
use Rattle.rules.specs.Refusals.{first, view_refusal}
use Rattle.rules.specs.Answers.{checked}
use Rattle.rules.proofs.Refusals.{unrefused}
use Rattle.cells.proofs.Kept.{refused_codes}
use Rattle.cells.specs.Cells.{cells_refusal}
use Rattle.cells.proofs.front.turned_of.Goals as goal

pub returns-in_err-view_refusal : goal.returns-in_err-view_refusal
unfolding first
returns-in_err-view_refusal c =
    let a = c.args in
    let none = unrefused (cells_refusal a.cells.now) c.cells_refusal.ensures c.in_ok-cells_refusal.was in
    let told : checked (first (cells_refusal a.cells.now) (view_refusal a.view)) ≡ checked (view_refusal a.view) = rw none in
    refused_codes _ _ _ (told ∙ sym c.view_refusal.ensures ∙ c.in_err-view_refusal.was) (search rules)
