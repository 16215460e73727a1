-- `segment::segment::eyes_of` meets its contract. Assumes nothing.
use mathlib.Core.Path.{sym, ◌∙◌}
use borrow.Author.Rules.{rules}
use Rattle.segment.proofs.Segments.{wanted-none, wanted-some}
use Rattle.segment.proofs.segment.eyes_of.Goals as goal

pub returns-then-is_dead : goal.returns-then-is_dead
returns-then-is_dead c = wanted-none _ _ _ (sym c.is_dead.ensures ∙ c.if-is_dead.true)

pub returns : goal.returns
returns c = simp c.stones_of.ensures
    (wanted-some _ _ _ (search rules) (sym c.is_dead.ensures ∙ c.if-is_dead.false))
