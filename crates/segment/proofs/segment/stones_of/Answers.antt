-- `segment::segment::stones_of` meets its contract: a computed test of all 256 bytes. Assumes nothing.
use borrow.Author.Rules.{rules}
use Rattle.segment.proofs.Segments.{stones-byte}
use Rattle.segment.proofs.segment.stones_of.Goals as goal

pub returns : goal.returns
returns c = stones-byte _ (search rules)
