-- `cells::change::put_of` meets its contract: refused, or the cell set to the colour's number. Assumes nothing.
use mathlib.Core.Path.{ap, ◌∙◌}
use native.Mathlib.Omega.{arith}
use lib.ListN.{set}
use Rattle.rules.specs.Answers.{answer}
use Rattle.cells.specs.Calls.{changed, after_put}
use Rattle.rules.proofs.Refusals.{unrefused}
use Rattle.cells.proofs.Given.{cells-for-in, colour-cell}
use Rattle.cells.proofs.change.put_of.Goals as goal

pub write_block-requires : goal.write_block-requires
write_block-requires c =
    let a = c.args in
    let ok = cells-for-in a.cells.now a.code a.colour (unrefused _ c.cells_refusal_for.ensures c.in_ok-cells_refusal_for.was) in
    (ok.0.long, c.if-code-lt224.true)

pub bounds-cells-code : goal.bounds-cells-code
bounds-cells-code c =
    let a = c.args in
    let ok = cells-for-in a.cells.now a.code a.colour (unrefused _ c.cells_refusal_for.ensures c.in_ok-cells_refusal_for.was) in
    omega (arith, ok.0.long, ok.1)

pub returns-then-code-lt224 : goal.returns-then-code-lt224
unfolding answer changed after_put
returns-then-code-lt224 c =
    let a = c.args in
    let none = unrefused _ c.cells_refusal_for.ensures c.in_ok-cells_refusal_for.was in
    let ok = cells-for-in a.cells.now a.code a.colour none in
    (rw none, rw none (c.write_block.ensures ∙ ap (set a.cells.now a.code) (colour-cell a.colour ok.2)))

pub returns-else-code-lt224 : goal.returns-else-code-lt224
unfolding answer changed after_put
returns-else-code-lt224 c =
    let a = c.args in
    let none = unrefused _ c.cells_refusal_for.ensures c.in_ok-cells_refusal_for.was in
    let ok = cells-for-in a.cells.now a.code a.colour none in
    (rw none, rw none (ap (set a.cells.now a.code) (colour-cell a.colour ok.2)))
