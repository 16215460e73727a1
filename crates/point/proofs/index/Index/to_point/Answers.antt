-- `point::index::Index::to_point` meets its contract: the code of a cell of a line fits. Assumes nothing.
use native.Mathlib.Omega.{arith}
use Rattle.rules.proofs.Refusals.{unrefused}
use Rattle.rules.proofs.Address.{point-lt}
use Rattle.point.specs.Points.{index_refusal}
use Rattle.point.proofs.Refused.{index_in}
use Rattle.point.proofs.index.Index.to_point.Goals as goal

pub overflow_cast-result : goal.overflow_cast-result
overflow_cast-result c =
    let n = c.args.self in
    let h = index_in n (unrefused (index_refusal n) c.refusal.ensures c.in_ok-refusal.was) in
    omega (arith, c.point_at-code.ensures, point-lt n.d n.i n.j h.0 h.1 h.2)
