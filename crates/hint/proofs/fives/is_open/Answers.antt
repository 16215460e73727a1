-- `hint::fives::is_open` meets its contract. Assumes nothing.
use mathlib.Core.Path.{ap, sym, ◌∙◌}
use mathlib.Core.Bool.{not}
use Rattle.rules.proofs.Logic.{no_true, true-T, not-false}
use Rattle.grid.specs.Lines.{cells_of}
use Rattle.grid.proofs.Lines.{length-cells_of}
use Rattle.hint.proofs.Lined.{open-black, open-white, open_told, not-no}
use Rattle.hint.proofs.fives.is_open.Goals.{then-not-has_row, else-not-has_row}
use Rattle.hint.proofs.fives.is_open.Goals as goal

pub returns-then-not-has_row-2 : goal.returns-then-not-has_row-2
returns-then-not-has_row-2 c =
    elim c.if-not-has_row.branch [
      | then-not-has_row w ↦
          open_told c.args.side (cells_of c.args.lines.now) (length-cells_of c.args.lines.now) c.has_row.ensures
          w.if-not-has_row.true w.has_row-then-not-has_row.ensures
          (not-false (true-T (sym w.value-is ∙ c.if-not-has_row-2.true))) c.opponent.ensures c.has_row-then-not-has_row-2.ensures
      | else-not-has_row w ↦ absurd (no_true (ap not (sym w.if-not-has_row.false) ∙ sym w.value-is ∙ c.if-not-has_row-2.true))
    ]

pub returns-else-not-has_row-2 : goal.returns-else-not-has_row-2
returns-else-not-has_row-2 c =
    c.if-not-has_row-2.false
    ∙ elim c.if-not-has_row.branch [
      | then-not-has_row w ↦
          open-white c.args.side (cells_of c.args.lines.now) (length-cells_of c.args.lines.now) c.has_row.ensures
          w.if-not-has_row.true w.has_row-then-not-has_row.ensures (not-no (sym w.value-is ∙ c.if-not-has_row-2.false))
      | else-not-has_row w ↦
          open-black c.args.side (cells_of c.args.lines.now) (length-cells_of c.args.lines.now) c.has_row.ensures w.if-not-has_row.false
    ]
