-- `masks::bits_below` meets its contract: what is not from the end on. Assumes nothing.
use Rattle.rules.proofs.Bits.{mask-cong}
use Rattle.rules.proofs.Logic.{not-leb}
use Rattle.masks.proofs.Windows.{masks}
use Rattle.masks.proofs.bits.bits_below.Goals as goal

pub returns : goal.returns
returns c = simp (c.bits_from.ensures, masks) (mask-cong 16 _ _ (λ j k. not-leb _ j))
