-- `lent::slices::find` meets its contract: no byte below i is the one looked for. Assumes nothing.
use mathlib.Core.Path.{◌≡◌}
use Prim.Native.Nat.{◌+◌}
use lib.ListN.{drop}
use Rattle.lent.specs.Slices.{find_at}
use Rattle.lent.proofs.slices.find.Given as goal

abbrev pub invariant-loop-i : goal.invariant-loop-i
invariant-loop-i l = find_at l.d l.s ≡ l.i + find_at l.d (drop l.i l.s)
