use native.Mathlib.Omega.{arith}
use Rattle.lent.proofs.Spare.{held_none}
use Rattle.lent.proofs.lists.Kept.new.Goals as goal

pub invariant_of-result : goal.invariant_of-result
invariant_of-result g c = (omega arith, held_none g.row.N)
