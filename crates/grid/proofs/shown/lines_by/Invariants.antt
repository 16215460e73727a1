-- `grid::shown::lines_by` meets its contract: after i turns they are built of the first i cells. Assumes nothing.
use mathlib.Core.Path.{◌≡◌}
use Rattle.grid.specs.Lines.{built_by}
use Rattle.grid.proofs.shown.lines_by.Given as goal

abbrev pub invariant-loop-i : goal.invariant-loop-i
invariant-loop-i l = l.lines ≡ built_by l.cells l.table l.i
