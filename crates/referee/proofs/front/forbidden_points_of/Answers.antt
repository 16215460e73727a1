-- `referee::front::forbidden_points_of` meets its contract: refused, or listed. Assumes nothing.
use Rattle.rules.proofs.Refusals.{unrefused}
use Rattle.cells.specs.Cells.{cells_refusal}
use Rattle.cells.proofs.Given.{cells_in}
use Rattle.referee.proofs.front.forbidden_points_of.Goals as goal

pub listed-requires : goal.listed-requires
listed-requires c =
    let cells = c.args.cells.now in
    cells_in cells (unrefused (cells_refusal cells) c.cells_refusal.ensures c.in_ok-cells_refusal.was)
