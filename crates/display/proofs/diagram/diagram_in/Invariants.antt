-- `display::diagram::diagram_in` meets its contract: after k turns the first k rows are written. Assumes nothing.
use mathlib.Core.Path.{◌≡◌}
use Rattle.rules.specs.Tools.{gather}
use Rattle.display.specs.Texts.{plain_row}
use Rattle.display.proofs.diagram.diagram_in.Given as goal

abbrev pub invariant-loop-k : goal.invariant-loop-k
invariant-loop-k l = l.text ≡ gather l.k (plain_row l.cells)
