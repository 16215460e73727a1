-- `second::eye::first_gap` meets its contract: the cells before j + k all hold a stone. Assumes nothing.
use mathlib.Core.Path.{◌≡◌}
use mathlib.Core.Bool.{true}
use Prim.Native.Nat.{ℕ, ◌+◌, ◌<◌}
use Rattle.rules.specs.declared.Player.TheVariants.{Black}
use Rattle.second.specs.Walk.{own_along}
use Rattle.second.proofs.eye.first_gap.Given as goal

abbrev pub invariant-loop-k : goal.invariant-loop-k
invariant-loop-k l = (m : ℕ) → m < l.k → own_along Black l.board l.d l.code (l.j + m) ≡ true
