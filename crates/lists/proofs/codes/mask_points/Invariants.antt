-- `lists::codes::mask_points` meets its contract: after k turns the bits below k are looked at. Assumes nothing.
use mathlib.Core.Path.{◌≡◌}
use Rattle.rules.specs.Tools.{gather}
use Rattle.lists.specs.Lists.{mask_item}
use Rattle.lists.proofs.codes.mask_points.Given as goal

abbrev pub invariant-loop-k : goal.invariant-loop-k
invariant-loop-k l = l.list ≡ gather l.k (mask_item l.fn.key l.j l.mask)
