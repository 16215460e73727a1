-- `referee::cycle::strict` meets its contract. Assumes nothing.
use mathlib.Core.Path.{refl, sym, ◌∙◌}
use Prim.Native.Nat.{◌<◌}
use native.Mathlib.Omega.{arith}
use borrow.Author.Tests.{eq-eqb}
use Rattle.grid.specs.Lines.{cells_of}
use Rattle.grid.proofs.Lines.{length-cells_of}
use Rattle.referee.proofs.RowsSeen.{strict-is, triable}
use Rattle.referee.proofs.Asked.{cell-is, free-is, asked-taken}
use Rattle.referee.proofs.cycle.strict.Goals as goal

pub returns-then-cell_on-ne0 : goal.returns-then-cell_on-ne0
returns-then-cell_on-ne0 c =
    let hp : c.args.code < 225 = omega arith in
    (asked-taken c.args.lines.now c.args.code hp (rw c.get.ensures.value at c.cell_on.ensures) c.if-cell_on-ne0.true, refl)

pub strict_by-requires : goal.strict_by-requires
strict_by-requires c =
    let L = c.args.lines.now in
    let p = c.args.code in
    let hp : p < 225 = omega arith in
    let s = c.requires in
    let free = sym (cell-is L p hp (rw c.get.ensures.value at c.cell_on.ensures)) ∙ c.if-cell_on-ne0.false in
    λ t. triable (cells_of L) p (c.rows_on-rows.ensures.sound s) L s refl free

pub returns : goal.returns
returns c =
    let L = c.args.lines.now in
    let p = c.args.code in
    let hp : p < 225 = omega arith in
    let free = free-is L p hp (rw c.get.ensures.value at c.cell_on.ensures) ∙ eq-eqb _ 0 c.if-cell_on-ne0.false in (
      c.strict_by.ensures.0
          ∙ strict-is (cells_of L) p (c.rows_on-rows.ensures.sound c.requires) L (length-cells_of L) hp free (λ t. refl),
      c.strict_by.ensures.1,
    )
