-- `masks::bits_from` meets its contract. Assumes nothing.
use Rattle.masks.proofs.Windows.{from_some, from-none}
use Rattle.masks.proofs.bits.bits_from.Goals as goal

pub returns-then-from-lt16 : goal.returns-then-from-lt16
returns-then-from-lt16 c = from_some _

pub returns-else-from-lt16 : goal.returns-else-from-lt16
returns-else-from-lt16 c = from-none _ c.if-from-lt16.false
