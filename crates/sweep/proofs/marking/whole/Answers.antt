-- `sweep::marking::whole` meets its contract: the masks of the board's rows are whole. Assumes nothing.
use Rattle.rules.specs.Tools.{tab}
use Rattle.rules.specs.Bit.{mask_of}
use Rattle.sweep.specs.Marks.{marks, row_mask, on_board, every_point}
use Rattle.sweep.proofs.marking.whole.Goals as goal

pub returns : goal.returns
unfolding marks row_mask on_board every_point tab mask_of
returns c = rw (c.fill.ensures.after (λ y e. e))
