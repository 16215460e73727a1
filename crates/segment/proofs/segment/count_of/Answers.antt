-- `segment::segment::count_of` meets its contract: a computed test of all 256 bytes. Assumes nothing.
use borrow.Author.Rules.{rules}
use Rattle.segment.proofs.Segments.{count-byte}
use Rattle.segment.proofs.segment.count_of.Goals as goal

pub returns : goal.returns
returns c = count-byte _ (search rules)
