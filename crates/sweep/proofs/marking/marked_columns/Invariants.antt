-- `sweep::marking::marked_columns` meets its contract: it has the columns that the masks so far mark. Assumes nothing.
use mathlib.Core.Path.{◌≡◌}
use lib.ListN.{get_or}
use Rattle.rules.specs.Tools.{any_below}
use Rattle.rules.specs.Bit.{bit, mask_of}
use Rattle.sweep.proofs.marking.marked_columns.Given as goal

abbrev pub invariant-loop-mask : goal.invariant-loop-mask
invariant-loop-mask l = l.columns ≡ mask_of 16 (λ x. any_below l.mask-index (λ i. bit (get_or l.marks i 0) x))
