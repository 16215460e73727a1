-- `cells::front::neighbors_of` meets its contract: the point and the distance are not refused. Assumes nothing.
use Rattle.rules.proofs.Refusals.{unrefused}
use Rattle.cells.proofs.Given.{cells-near-in}
use Rattle.cells.proofs.front.neighbors_of.Goals as goal

pub neighbor_points-found-requires : goal.neighbor_points-found-requires
neighbor_points-found-requires c =
    let a = c.args in
    cells-near-in a.cells.now a.code a.distance (unrefused _ c.cells_neighbors_refusal.ensures c.in_ok-cells_neighbors_refusal.was)
