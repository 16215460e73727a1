-- `display::points::points_into` meets its contract: after i turns the first i points are written. Assumes nothing.
use mathlib.Core.Path.{◌≡◌}
use lib.ListN.{length}
use Rattle.rules.specs.Tools.{gather}
use Rattle.lent.specs.Lists.{laid}
use Rattle.display.specs.Texts.{point_item}
use Rattle.display.proofs.points.points_into.Given as goal

abbrev pub invariant-loop-i : goal.invariant-loop-i
invariant-loop-i l = (l.n ≡ length (gather l.i (point_item l.codes))) × (l.out ≡ laid l.initial.out (gather l.i (point_item l.codes)))
