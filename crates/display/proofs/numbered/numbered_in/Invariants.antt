-- `display::numbered::numbered_in` meets its contract: after k turns the first k rows are written. Assumes nothing.
use mathlib.Core.Path.{◌≡◌}
use Rattle.rules.specs.Tools.{gather}
use Rattle.display.specs.Texts.{numbered_row}
use Rattle.display.proofs.numbered.numbered_in.Given as goal

abbrev pub invariant-loop-k : goal.invariant-loop-k
invariant-loop-k l = l.text ≡ gather l.k (numbered_row l.cells)
