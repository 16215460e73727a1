-- `sweep::points::sweep_points` meets its contract. Assumes nothing.
use Rattle.lent.specs.Lists.{zeros}
use Rattle.sweep.proofs.Board.{asked-none}
use Rattle.sweep.proofs.points.sweep_points.Goals as goal

pub returns-then-cells-ne225 : goal.returns-then-cells-ne225
unfolding zeros
returns-then-cells-ne225 c = asked-none _ c.if-cells-ne225.true
