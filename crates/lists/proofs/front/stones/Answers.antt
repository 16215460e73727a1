-- `lists::front::stones` meets its contract: refused, or asked of the cells that the board shows. Assumes nothing.
use mathlib.Core.Path.{ap, sym, ◌∙◌}
use mathlib.Core.List.{List}
use Prim.Native.Nat.{ℕ}
use borrow.Author.Rules.{rules}
use Rattle.rules.proofs.Refusals.{unrefused}
use Rattle.lent.proofs.Handed.{turned_down}
use Rattle.rules.specs.Numbers.{player_of}
use Rattle.rules.specs.Grid.{stones_of}
use Rattle.cells.specs.Cells.{cells_stones_refusal}
use Rattle.lists.proofs.Open.{asked-list, stones-turned, stones-asked}
use Rattle.lists.proofs.front.stones.Goals as goal

pub returns-in_err-refusal : goal.returns-in_err-refusal
returns-in_err-refusal c =
    let a = c.args in
    turned_down 1 _ _ _ (stones-turned a.board (sym c.refusal.ensures ∙ c.in_err-refusal.was) a.colour) (search rules)

pub returns : goal.returns
returns c =
    let a = c.args in
    let shown = c.cells_on-cells.ensures in
    let none = unrefused _ c.refusal.ensures c.in_ok-refusal.was in
    asked-list a.out.now (ap (λ (x : List ℕ). cells_stones_refusal x a.colour) shown ∙ stones-asked a.board none a.colour) (ap (stones_of (player_of a.colour)) shown) c.stones_of.ensures
