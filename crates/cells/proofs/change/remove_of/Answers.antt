-- `cells::change::remove_of` meets its contract: there are 225 cells, and the point is one of them. Assumes nothing.
use native.Mathlib.Omega.{arith}
use Rattle.rules.proofs.Refusals.{unrefused}
use Rattle.cells.proofs.Given.{cells-at-in}
use Rattle.cells.proofs.change.remove_of.Goals as goal

pub write_block-requires : goal.write_block-requires
write_block-requires c =
    let ok = cells-at-in c.args.cells.now c.args.code (unrefused _ c.cells_refusal_at.ensures c.in_ok-cells_refusal_at.was) in
    (ok.0.long, c.if-code-lt224.true)

pub bounds-cells-code : goal.bounds-cells-code
bounds-cells-code c =
    let ok = cells-at-in c.args.cells.now c.args.code (unrefused _ c.cells_refusal_at.ensures c.in_ok-cells_refusal_at.was) in
    omega (arith, ok.0.long, ok.1)
