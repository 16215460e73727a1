-- `board::count::count_on` meets its contract: after x columns it has the stones of the points in them. Assumes nothing.
use mathlib.Core.Path.{◌≡◌}
use Prim.Native.Nat.{◌*◌, ◌-◌, ◌≤◌}
use Rattle.rules.specs.Bit.{count_of}
use Rattle.board.proofs.Counted.{shown_at}
use Rattle.board.proofs.count.count_on.Given as goal

abbrev pub invariant-loop-x : goal.invariant-loop-x
invariant-loop-x l = (l.x ≤ 15) × (l.n ≡ count_of (15 * l.x) (shown_at l.player l.lines))

abbrev pub decreases-loop-x : goal.decreases-loop-x
decreases-loop-x l = 15 - l.x
