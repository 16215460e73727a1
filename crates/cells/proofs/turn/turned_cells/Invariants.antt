-- `cells::turn::turned_cells` meets its contract: after x turns the first x columns are filled in. Assumes nothing.
use mathlib.Core.Path.{◌≡◌}
use Prim.Native.Nat.{◌*◌}
use Rattle.cells.specs.Turned.{turned_to}
use Rattle.cells.proofs.turn.turned_cells.Given as goal

abbrev pub invariant-loop-x : goal.invariant-loop-x
invariant-loop-x l = l.to ≡ turned_to (15 * l.x) l.back l.from
