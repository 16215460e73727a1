-- `grid::shown::cells_on` meets its contract: after i turns the first i cells are filled in. Assumes nothing.
use mathlib.Core.Path.{◌≡◌}
use Rattle.grid.specs.Lines.{cell_of}
use Rattle.cells.proofs.Filled.{filled}
use Rattle.grid.proofs.shown.cells_on.Given as goal

abbrev pub invariant-loop-i : goal.invariant-loop-i
invariant-loop-i l = l.cells ≡ filled 225 (cell_of l.lines) l.i
