-- `hint::check::check_on` meets its contract: what is left of the list, from the present lines, decides. Assumes nothing.
use mathlib.Core.Path.{◌≡◌}
use lib.ListN.{length}
use Rattle.grid.specs.Lines.{cells_of, Sound}
use Rattle.hint.specs.Hint.{reaches_end}
use Rattle.hint.specs.Seen.{Quiet}
use Rattle.hint.proofs.check.check_on.Given as goal

abbrev pub invariant-loop-left : goal.invariant-loop-left
invariant-loop-left l = Sound l.lines × Quiet l.side (cells_of l.lines)
    × (reaches_end l.side (cells_of l.initial.lines) l.list ≡ reaches_end l.side (cells_of l.lines) l.left)

abbrev pub decreases-loop-left : goal.decreases-loop-left
decreases-loop-left l = length l.left
