-- `masks::score_mask` meets its contract. Assumes nothing.
use Rattle.rules.proofs.Bits.{mask-cong}
use Rattle.masks.proofs.Windows.{masks, score-bit}
use Rattle.masks.proofs.score_mask.Goals as goal

pub returns : goal.returns
returns c = simp (c.count_mask.ensures, c.overline.ensures, masks) (mask-cong 16 _ _ (λ j k. score-bit _ _ _ _ _ j))
