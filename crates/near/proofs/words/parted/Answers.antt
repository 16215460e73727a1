-- `near::words::parted` meets its contract. Assumes nothing.
use Rattle.near.proofs.Places.{parted-masks}
use Rattle.near.proofs.words.parted.Goals as goal

pub returns : goal.returns
returns c = parted-masks _ c.low.ensures c.low-2.ensures c.low-3.ensures
    c.low-4.ensures
