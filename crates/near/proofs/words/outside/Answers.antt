-- `near::words::outside` meets its contract. Assumes nothing.
use Rattle.near.specs.Places.{past_end}
use Rattle.near.proofs.Places.{joined-masks}
use lib.Dec.{leb}
use Rattle.rules.specs.Point.{line_no, line_size}
use Rattle.near.proofs.words.outside.Goals as goal

pub returns : goal.returns
unfolding past_end
returns c =
    joined-masks (λ d. leb (line_size d (line_no d c.args.code))) c.past_end.ensures
    c.past_end-2.ensures c.past_end-3.ensures c.past_end-4.ensures
    c.joined.ensures
