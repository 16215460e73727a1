-- `masks::over_starts` meets its contract. Assumes nothing.
use Rattle.rules.proofs.Bits.{mask-cong}
use Rattle.masks.proofs.Windows.{masks, over-bit}
use Rattle.masks.proofs.over_starts.Goals as goal

pub returns : goal.returns
returns c = simp (c.count_mask-s.ensures, masks) (mask-cong 16 _ _ (λ j k. over-bit _ _ _ _ j))
