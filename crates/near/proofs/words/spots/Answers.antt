-- `near::words::spots` meets its contract. Assumes nothing.
use lib.Dec.{eqb}
use Rattle.rules.specs.Point.{cell_no}
use Rattle.near.specs.Places.{spot_at}
use Rattle.near.proofs.Places.{joined-masks}
use Rattle.near.proofs.words.spots.Goals as goal

pub returns : goal.returns
unfolding spot_at
returns c =
    joined-masks (λ d j. eqb j (cell_no d c.args.code)) c.spot_in.ensures
    c.spot_in-2.ensures c.spot_in-3.ensures c.spot_in-4.ensures
    c.joined.ensures
