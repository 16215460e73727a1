-- `hint::eyes::gap_from` meets its contract: the cells passed have stones. Assumes nothing.
use mathlib.Core.Path.{◌≡◌}
use mathlib.Core.Bool.{true}
use Prim.Native.Nat.{ℕ, ◌+◌, ◌<◌}
use Rattle.rules.specs.Bit.{bit}
use Rattle.hint.proofs.eyes.gap_from.Given as goal

abbrev pub invariant-loop-k : goal.invariant-loop-k
invariant-loop-k l = (i : ℕ) → i < l.k → bit l.stones (l.j + i) ≡ true
