-- `segment::segment::is_clear` meets its contract: a computed test of all 256 bytes. Assumes nothing.
use borrow.Author.Rules.{rules}
use Rattle.segment.proofs.Segments.{clear}
use Rattle.segment.proofs.segment.is_clear.Goals as goal

pub returns : goal.returns
returns c = clear _ (search rules)
