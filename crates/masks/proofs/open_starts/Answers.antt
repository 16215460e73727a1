-- `masks::open_starts` meets its contract. Assumes nothing.
use Rattle.rules.proofs.Bits.{mask-cong}
use Rattle.masks.proofs.Windows.{below, masks, not-shr4, open-bit}
use Rattle.masks.proofs.open_starts.Goals as goal

pub returns : goal.returns
returns c = simp (c.score_mask-s.ensures, not-shr4 c.args.my (search below), masks)
    (mask-cong 16 _ _ (λ j k. open-bit _ _ _ _ _ j))
