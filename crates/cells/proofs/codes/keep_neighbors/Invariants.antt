-- `cells::codes::keep_neighbors` meets its contract: after s turns the first s cells are looked at. Assumes nothing.
use mathlib.Core.Path.{◌≡◌}
use mathlib.Core.List.{◌++◌}
use Rattle.rules.specs.Tools.{gather}
use Rattle.rules.specs.Grid.{neighbour_item}
use Rattle.cells.proofs.codes.keep_neighbors.Given as goal

abbrev pub invariant-loop-s : goal.invariant-loop-s
invariant-loop-s l = l.found ≡ l.initial.found ++ gather l.s (neighbour_item l.cells l.code l.distance l.only_empty l.d)
