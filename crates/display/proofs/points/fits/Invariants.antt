-- `display::points::fits` meets its contract: after i turns the room is what the first i points leave. Assumes nothing.
use mathlib.Core.Path.{◌≡◌}
use Prim.Native.Nat.{◌+◌}
use lib.ListN.{length}
use Rattle.rules.specs.Tools.{gather}
use Rattle.display.specs.Texts.{point_item}
use Rattle.display.proofs.points.fits.Given as goal

abbrev pub invariant-loop-i : goal.invariant-loop-i
invariant-loop-i l = l.left + length (gather l.i (point_item l.codes)) ≡ l.room
