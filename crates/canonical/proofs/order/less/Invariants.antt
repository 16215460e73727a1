-- `canonical::order::less` meets its contract: what is left of both lists is compared as the whole. Assumes nothing.
use mathlib.Core.Path.{◌≡◌}
use lib.ListN.{drop}
use Rattle.canonical.specs.Canonical.{less}
use Rattle.canonical.proofs.order.less.Given as goal

abbrev pub invariant-loop-i : goal.invariant-loop-i
invariant-loop-i l = less l.first l.second ≡ less (drop l.i l.first) (drop l.i l.second)
