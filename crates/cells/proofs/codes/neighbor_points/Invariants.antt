-- `cells::codes::neighbor_points` meets its contract: after d turns the first d directions are done. Assumes nothing.
use mathlib.Core.Path.{◌≡◌}
use Rattle.rules.specs.Tools.{gather}
use Rattle.rules.specs.Grid.{neighbours_in}
use Rattle.cells.proofs.codes.neighbor_points.Given as goal

abbrev pub invariant-loop-d : goal.invariant-loop-d
invariant-loop-d l = l.found ≡ gather l.d (neighbours_in l.cells l.code l.distance l.only_empty)
