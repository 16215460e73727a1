-- `hint::fives::has_row` meets its contract: the lines passed have no such row. Assumes nothing.
use mathlib.Core.Path.{◌≡◌}
use mathlib.Core.Bool.{false}
use Rattle.rules.specs.Tools.{any_below}
use Rattle.grid.specs.Lines.{cells_of}
use Rattle.hint.specs.Seen.{row_on_key}
use Rattle.hint.proofs.fives.has_row.Given as goal

abbrev pub invariant-loop-key : goal.invariant-loop-key
invariant-loop-key l = any_below l.key (row_on_key l.player l.kind (cells_of l.lines)) ≡ false
