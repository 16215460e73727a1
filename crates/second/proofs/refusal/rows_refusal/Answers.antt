-- `second::refusal::rows_refusal` meets its contract: the colour is refused where the cells are not. Assumes nothing.
use borrow.Author.Rules.{rules}
use Rattle.rules.specs.Refusals.{first}
use Rattle.rules.specs.Answers.{answer}
use Rattle.rules.proofs.Refusals.{unrefused}
use Rattle.cells.specs.Cells.{cells_stones_refusal}
use Rattle.second.specs.Lists.{cells_rows_refusal}
use Rattle.second.proofs.refusal.rows_refusal.Goals as goal

pub returns-in_err-colour_refusal : goal.returns-in_err-colour_refusal
unfolding answer first cells_stones_refusal cells_rows_refusal
returns-in_err-colour_refusal c =
    let z = unrefused _ c.cells_refusal.ensures c.in_ok-cells_refusal.was in
    rw z (search rules)
