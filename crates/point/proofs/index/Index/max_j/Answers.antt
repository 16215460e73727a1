-- `point::index::Index::max_j` meets its contract: a line with a cell has a last one. Assumes nothing.
use native.Mathlib.Omega.{arith}
use Rattle.rules.proofs.Refusals.{unrefused}
use Rattle.point.specs.Points.{index_refusal}
use Rattle.point.proofs.Refused.{index_in}
use Rattle.point.proofs.index.Index.max_j.Goals as goal

pub overflow_sub-result : goal.overflow_sub-result
overflow_sub-result c =
    let h = index_in c.args.self (unrefused (index_refusal c.args.self) c.refusal.ensures c.in_ok-refusal.was) in
    omega (arith, c.line_size.ensures, h.2)
