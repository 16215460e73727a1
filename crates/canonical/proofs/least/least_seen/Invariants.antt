-- `canonical::least::least_seen` meets its contract: it has the least of the views below `view`. Assumes nothing.
use mathlib.Core.Path.{◌≡◌}
use Rattle.rules.specs.Views.{turn_cells}
use Rattle.canonical.proofs.Eight.{least_of}
use Rattle.canonical.proofs.least.least_seen.Given as goal

abbrev pub invariant-loop-view : goal.invariant-loop-view
invariant-loop-view l = (l.first ≡ least_of l.cells l.view) × (l.least ≡ turn_cells l.first l.cells)
