-- `masks::segment_bits` meets its contract. Assumes nothing.
use Rattle.masks.proofs.Windows.{below, segment-some, segment-none}
use Rattle.masks.proofs.segment_bits.Goals as goal

pub returns-then-j-ge32 : goal.returns-then-j-ge32
returns-then-j-ge32 c = segment-none _ _ (search below) c.if-j-ge32.true

pub returns : goal.returns
returns c = segment-some _ _
