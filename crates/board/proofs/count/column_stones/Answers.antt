-- `board::count::column_stones` meets its contract: the bits below 15, counted. Assumes nothing.
use Rattle.board.proofs.Counted.{column-ones}
use Rattle.board.proofs.count.column_stones.Goals as goal

pub returns : goal.returns
returns c = column-ones c.args.mask
