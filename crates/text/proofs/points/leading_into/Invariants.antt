-- `text::points::leading_into` meets its contract: the codes of the items that were read are kept, and the rest of the text has the others.
-- Assumes nothing.
use lib.ListN.{length}
use Rattle.text.specs.Bytes.{comma}
use Rattle.text.proofs.Places.{left_in}
use Rattle.text.proofs.Items.{Reading}
use Rattle.text.proofs.points.leading_into.Given as goal

abbrev pub invariant-items : goal.invariant-items
invariant-items l = Reading l.s l.codes (left_in comma l.rest)

abbrev pub decreases-items : goal.decreases-items
decreases-items l = length (left_in comma l.rest)
