-- `line::bits::count_bits` meets its contract. Assumes nothing.
use Rattle.rules.proofs.Bits.{count_ones}
use Rattle.masks.proofs.Windows.{below}
use Rattle.line.proofs.bits.count_bits.Goals as goal

pub returns : goal.returns
returns c = count_ones 16 c.args.m (search below)
