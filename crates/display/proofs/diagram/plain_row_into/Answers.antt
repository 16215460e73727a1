-- `display::diagram::plain_row_into` meets its contract: behind a row of 30 bytes there is room for byte 10. Assumes nothing.
use mathlib.Core.Path.{ap, ◌∙◌}
use Prim.Native.Nat.{◌-◌}
use native.Mathlib.Omega.{arith}
use lib.ListN.{length, length-append}
use borrow.Author.Rules.{rules}
use Rattle.display.specs.Texts.{row_text}
use Rattle.display.proofs.Sizes.{row_length}
use Rattle.display.proofs.diagram.plain_row_into.Goals as goal

pub put_if-requires : goal.put_if-requires
put_if-requires g c =
    let a = c.args in
    let e = ap length c.row_into.ensures ∙ length-append a.text.now (row_text a.cells.now (14 - a.k)) in
    let thirty = row_length a.cells.now (14 - a.k) in
    (search rules, omega arith)
