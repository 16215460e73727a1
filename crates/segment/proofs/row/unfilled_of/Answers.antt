-- `segment::row::unfilled_of` meets its contract. Assumes nothing.
use borrow.Author.Rules.{rules}
use Rattle.segment.proofs.Segments.{unfilled-byte}
use Rattle.segment.proofs.row.unfilled_of.Goals as goal

pub returns : goal.returns
returns c = simp (c.stones_of.ensures, c.eye_cells.ensures) (unfilled-byte _ _ (search rules))
