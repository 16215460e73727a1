-- `referee::front::forbidden_points` meets its contract: refused, or its cells listed. Assumes nothing.
use Rattle.grid.proofs.Lines.{cells-cells_of}
use Rattle.referee.proofs.front.forbidden_points.Goals as goal

pub listed-requires : goal.listed-requires
listed-requires c =
    let e = c.cells_on-cells.ensures in
    rw e (cells-cells_of _)
