-- `cells::stones::counts_of` meets its contract: both colours of 225 cells are counted. Assumes nothing.
use Rattle.rules.proofs.Refusals.{unrefused}
use Rattle.cells.proofs.Given.{cells_in}
use Rattle.cells.proofs.stones.counts_of.Goals as goal

pub stones_count-whites-requires : goal.stones_count-whites-requires
stones_count-whites-requires c = (cells_in c.args.cells.now (unrefused _ c.cells_refusal.ensures c.in_ok-cells_refusal.was)).long

pub stones_count-blacks-requires : goal.stones_count-blacks-requires
stones_count-blacks-requires c = (cells_in c.args.cells.now (unrefused _ c.cells_refusal.ensures c.in_ok-cells_refusal.was)).long
