-- `masks::starts` meets its contract. Assumes nothing.
use Rattle.rules.proofs.Bits.{mask-cong}
use Rattle.masks.proofs.Windows.{starts-on}
use Rattle.masks.proofs.starts.Goals as goal

pub returns : goal.returns
returns c = simp (c.bits_below.ensures, c.saturating_sub.ensures) (mask-cong 16 _ _ (λ j k. starts-on _ j))
