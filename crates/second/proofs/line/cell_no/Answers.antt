-- `second::line::cell_no` meets its contract: the steps back are the cells before the point. Assumes nothing.
use native.Mathlib.Omega.{arith}
use Rattle.second.proofs.Walks.{back-cells}
use Rattle.second.proofs.line.cell_no.Goals as goal

pub returns : goal.returns
returns c =
    simp (c.get-x.ensures.value, c.get-y.ensures.value, c.by_direction.ensures, c.min.ensures, c.min-2.ensures)
    (back-cells c.args.d c.args.code (omega arith) (omega arith))
