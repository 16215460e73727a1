-- `cells::codes::points_with` meets its contract: after p turns the points below p are looked at. Assumes nothing.
use mathlib.Core.Path.{◌≡◌}
use Rattle.rules.specs.Tools.{gather}
use Rattle.cells.specs.Cells.{value_item}
use Rattle.cells.proofs.codes.points_with.Given as goal

abbrev pub invariant-loop-p : goal.invariant-loop-p
invariant-loop-p l = l.found ≡ gather l.p (value_item l.cells l.value)
