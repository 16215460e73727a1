-- `display::numbered::numbered_row_into` meets its contract: there is room behind the number, and behind the row. Assumes nothing.
use mathlib.Core.Path.{ap, ◌∙◌}
use Prim.Native.Nat.{◌-◌}
use native.Mathlib.Omega.{arith}
use lib.ListN.{length, length-append}
use borrow.Author.Rules.{rules}
use Rattle.display.specs.Texts.{right_aligned, row_text}
use Rattle.display.proofs.Sizes.{row_length, right_two}
use Rattle.display.proofs.numbered.numbered_row_into.Goals as goal

pub row_into-requires : goal.row_into-requires
row_into-requires g c =
    let a = c.args in
    let e = ap length c.right_into.ensures ∙ length-append a.text.now (right_aligned (15 - a.k)) in
    let two = right_two (15 - a.k) (omega arith) in
    (search rules, (omega arith, omega arith))

pub put-requires : goal.put-requires
put-requires g c =
    let a = c.args in
    let e = ap length c.right_into.ensures ∙ length-append a.text.now (right_aligned (15 - a.k)) in
    let two = right_two (15 - a.k) (omega arith) in
    let f = ap length c.row_into.ensures ∙ length-append c.right_into.new.text (row_text a.cells.now (14 - a.k)) in
    let thirty = row_length a.cells.now (14 - a.k) in
    (search rules, omega arith)
