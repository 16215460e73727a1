-- `point::index::Index::offset` meets its contract: a cell that is on the line. Assumes nothing.
use native.Mathlib.Omega.{arith}
use Rattle.rules.proofs.Refusals.{unrefused}
use Rattle.rules.proofs.Address.{size-le}
use Rattle.point.specs.Points.{offset_refusal}
use Rattle.point.proofs.Refused.{offset-in}
use Rattle.point.proofs.index.Index.offset.Goals as goal

pub overflow_add-result : goal.overflow_add-result
overflow_add-result c =
    let a = c.args in
    let none = unrefused (offset_refusal a.self a.step) c.offset_refusal.ensures c.in_ok-offset_refusal.was in
    let h = offset-in a.self a.step none in
    omega (arith, size-le a.self.d a.self.i)
