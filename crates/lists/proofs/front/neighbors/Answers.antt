-- `lists::front::neighbors` meets its contract: refused, or asked of the cells that the board shows. Assumes nothing.
use mathlib.Core.Path.{ap, sym, ◌∙◌}
use mathlib.Core.List.{List}
use Prim.Native.Nat.{ℕ}
use borrow.Author.Rules.{rules}
use Rattle.rules.proofs.Refusals.{unrefused}
use Rattle.lent.proofs.Handed.{turned_down}
use Rattle.rules.specs.Grid.{neighbours}
use Rattle.cells.specs.Cells.{cells_neighbours_refusal}
use Rattle.lists.proofs.Open.{asked-list, near-turned, near-asked}
use Rattle.lists.proofs.front.neighbors.Goals as goal

pub returns-in_err-refusal : goal.returns-in_err-refusal
returns-in_err-refusal c =
    let a = c.args in
    turned_down 1 _ _ _ (near-turned a.board (sym c.refusal.ensures ∙ c.in_err-refusal.was) a.code a.distance) (search rules)

pub returns : goal.returns
returns c =
    let a = c.args in
    let shown = c.cells_on-cells.ensures in
    let none = unrefused _ c.refusal.ensures c.in_ok-refusal.was in
    asked-list a.out.now (ap (λ (x : List ℕ). cells_neighbours_refusal x a.code a.distance) shown ∙ near-asked a.board none a.code a.distance) (ap (λ (x : List ℕ). neighbours x a.code a.distance a.only_empty) shown) c.neighbors_of.ensures
