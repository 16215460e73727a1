use Rattle.std.proofs.Common.{refl}
use Rattle.std.proofs.Common.{◌≤◌, ◌+◌, length}
use native.Mathlib.Omega.{arith}
use Rattle.lent.proofs.Spare.{held_more}
use Rattle.lent.proofs.lists.Kept.keep.Goals as goal

pub invariant_of-self : goal.invariant_of-self
invariant_of-self g c =
    let fit : c.self.inside.len + length c.args.item.now ≤ g.row.N = omega (arith, c.if-item-self.false, c.self.invariant.0) in
    rw c.lay.ensures
    (fit, held_more g.row.N c.self.inside.len _ c.self.inside.bytes c.args.item.now _ c.self.invariant.1 refl fit)
