-- `hint::tries::next_try` meets its contract. Assumes nothing.
use mathlib.Core.Path.{◌≡◌}
use Prim.Native.Nat.{ℕ, ◌-◌, ◌≤◌, ◌<◌}
use lib.Dec.{T}
use lib.ListN.{get_or}
use Rattle.rules.specs.Grid.{is_empty}
use Rattle.grid.specs.Lines.{cells_of}
use Rattle.hint.specs.Seen.{marked}
use mathlib.Core.Bool.{false}
use Rattle.hint.proofs.tries.next_try.Given as goal

abbrev pub invariant-loop-p : goal.invariant-loop-p
invariant-loop-p l = (l.from ≤ l.p) × ((q : ℕ) → l.from ≤ q → q < l.p → T (is_empty (get_or (cells_of l.lines) q 0)) → marked l.tries q ≡ false)

abbrev pub decreases-loop-p : goal.decreases-loop-p
decreases-loop-p l = 255 - l.p
