-- `mending::kept::first_ones` meets its contract: the codes before place i are kept. Assumes nothing.
use mathlib.Core.Path.{◌≡◌}
use lib.ListN.{take, drop}
use Rattle.mending.specs.Mending.{once_from, once_of}
use Rattle.mending.proofs.kept.first_ones.Given as goal

abbrev pub invariant-loop-i : goal.invariant-loop-i
invariant-loop-i l = once_of l.codes ≡ once_from (take l.i l.codes) (drop l.i l.codes)
