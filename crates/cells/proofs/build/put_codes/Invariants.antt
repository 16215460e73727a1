-- `cells::build::put_codes` meets its contract: what is left to put, put on the cells as they are, gives the whole. Assumes nothing.
use mathlib.Core.Path.{◌≡◌}
use lib.ListN.{drop}
use Rattle.rules.specs.Grid.{play}
use Rattle.cells.specs.Cells.{puts}
use Rattle.cells.proofs.build.put_codes.Given as goal

abbrev pub invariant-loop-code : goal.invariant-loop-code
invariant-loop-code l =
    play (puts l.alternate l.who (drop l.code-index l.codes)) l.cells ≡ play (puts l.alternate l.initial.who l.codes) l.initial.cells
