-- `depth::cycle::depth_on` meets its contract. Assumes nothing.
use mathlib.Core.Path.{refl, sym, ◌∙◌}
use Prim.Native.Nat.{◌<◌}
use native.Mathlib.Omega.{arith}
use borrow.Author.Tests.{ne_eqb}
use Rattle.rules.proofs.Depth.{depth-taken}
use Rattle.grid.specs.Lines.{cells_of}
use Rattle.grid.proofs.Lines.{length-cells_of}
use Rattle.referee.proofs.Asked.{cell-is, free-is}
use Rattle.depth.proofs.cycle.depth_on.Goals as goal

pub returns-then-cell_on-ne0 : goal.returns-then-cell_on-ne0
returns-then-cell_on-ne0 c =
    let L = c.args.lines.now in
    let p = c.args.code in
    let hp : p < 225 = omega arith in (
      depth-taken (cells_of L) p (length-cells_of L) hp
          (free-is L p hp (rw c.get.ensures.value at c.cell_on.ensures) ∙ ne_eqb _ 0 c.if-cell_on-ne0.true),
      refl,
    )

pub depth_by-requires : goal.depth_by-requires
depth_by-requires c =
    let L = c.args.lines.now in
    let p = c.args.code in
    let hp : p < 225 = omega arith in
    let free = sym (cell-is L p hp (rw c.get.ensures.value at c.cell_on.ensures)) ∙ c.if-cell_on-ne0.false in
    (c.requires, free, c.rows_on-rows.ensures.sound c.requires)
