-- `cells::turn::turn_column` meets its contract: the points below q are filled in, and the next one's cell is known. Assumes nothing.
use mathlib.Core.Path.{◌≡◌}
use Prim.Native.Nat.{◌+◌, ◌*◌, ◌<◌}
use Rattle.rules.specs.Views.{turn}
use Rattle.cells.specs.Turned.{turned_to}
use Rattle.cells.proofs.turn.turn_column.Given as goal

abbrev pub invariant-loop-q : goal.invariant-loop-q
invariant-loop-q l = (l.to ≡ turned_to l.q l.back l.from) × (l.q < 15 * l.x + 15 → l.at ≡ turn l.back l.q + 15)
