-- `segment::segment::is_beside` meets its contract: a computed test of all 256 bytes. Assumes nothing.
use borrow.Author.Rules.{rules}
use Rattle.segment.proofs.Segments.{beside-byte}
use Rattle.segment.proofs.segment.is_beside.Goals as goal

pub returns : goal.returns
returns c = beside-byte _ (search rules)
