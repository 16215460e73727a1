-- `near::words::low` meets its contract. Assumes nothing.
use Rattle.near.proofs.Places.{low-places}
use Rattle.near.proofs.words.low.Goals as goal

pub returns : goal.returns
returns c = low-places _
