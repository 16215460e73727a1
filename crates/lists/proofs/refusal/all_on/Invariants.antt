-- `lists::refusal::all_on` meets its contract: after k turns the bits below k are tested. Assumes nothing.
use mathlib.Core.Path.{◌≡◌}
use mathlib.Core.Bool.{true}
use Rattle.rules.specs.Tools.{all_below}
use Rattle.lists.specs.Lists.{mask_cell}
use Rattle.lists.proofs.refusal.all_on.Given as goal

abbrev pub invariant-loop-k : goal.invariant-loop-k
invariant-loop-k l = all_below l.k (mask_cell l.size l.j l.mask) ≡ true
