-- `masks::eyes_of` meets its contract. Assumes nothing.
use Rattle.rules.specs.Line.{eyes_of}
use Rattle.masks.proofs.Windows.{masks}
use Rattle.masks.proofs.eyes_of.Goals as goal

pub returns : goal.returns
unfolding eyes_of
returns c = simp (c.spread.ensures, c.empty_cells.ensures, masks)
