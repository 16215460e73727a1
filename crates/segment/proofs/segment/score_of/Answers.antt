-- `segment::segment::score_of` meets its contract: its arms are the cases of the definition. Assumes nothing.
use mathlib.Core.Path.{sym, ◌∙◌}
use Rattle.rules.specs.Bit.{bit}
use Rattle.rules.specs.Line.{score}
use Rattle.segment.proofs.Segments.{small_signed, signed}
use Rattle.segment.proofs.segment.score_of.Goals as goal

pub returns-then-is_dead : goal.returns-then-is_dead
unfolding score
returns-then-is_dead c = rw (sym c.is_dead.ensures ∙ c.if-is_dead.true)

pub overflow_cast-result : goal.overflow_cast-result
overflow_cast-result c = small_signed (bit c.args.my) 1 _ c.count_of.ensures

pub returns : goal.returns
unfolding score
returns c = rw (sym c.is_dead.ensures ∙ c.if-is_dead.false)
    (signed (bit c.args.my) 1 _ c.count_of.ensures)
