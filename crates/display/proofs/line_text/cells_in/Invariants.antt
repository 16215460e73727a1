-- `display::line_text::cells_in` meets its contract: after i turns the first i cells are filled in. Assumes nothing.
use mathlib.Core.Path.{◌≡◌}
use Rattle.rules.specs.Bit.{bit}
use Rattle.display.specs.Texts.{values_of}
use Rattle.cells.proofs.Filled.{filled}
use Rattle.display.proofs.line_text.cells_in.Given as goal

abbrev pub invariant-loop-i : goal.invariant-loop-i
invariant-loop-i l = l.cells ≡ filled 16 (values_of (bit l.blacks) (bit l.whites)) l.i
