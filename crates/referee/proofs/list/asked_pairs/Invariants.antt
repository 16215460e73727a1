-- `referee::list::asked_pairs` meets its contract: after a turn the points of the columns below x, and those below y in column x, are asked,
-- or known to be none. Assumes nothing.
use mathlib.Core.Path.{◌≡◌}
use Prim.Native.Nat.{◌+◌, ◌*◌}
use Rattle.rules.specs.Tools.{gather}
use Rattle.rules.specs.Forbidden.{strict_of, entry}
use Rattle.referee.proofs.list.asked_pairs.Given as goal

abbrev pub invariant-loop-x : goal.invariant-loop-x
invariant-loop-x l = (l.lines ≡ l.initial.lines) × (l.found ≡ gather (15 * l.x) (λ q. entry (strict_of l.cells q) q))

abbrev pub invariant-loop-y : goal.invariant-loop-y
invariant-loop-y l = (l.lines ≡ l.initial.lines) × (l.found ≡ gather (15 * l.x + l.y) (λ q. entry (strict_of l.cells q) q))
