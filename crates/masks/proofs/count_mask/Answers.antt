-- `masks::count_mask` meets its contract. Assumes nothing.
use Rattle.rules.proofs.Bits.{mask-cong}
use Rattle.masks.proofs.Windows.{masks, tallied-count, count-bit}
use Rattle.masks.proofs.count_mask.Goals as goal

pub returns : goal.returns
returns c =
    let t = tallied-count 16 _ _ _ _ c.tally.ensures in
    simp (c.select.ensures, c.free_mask.ensures, c.starts.ensures, t.first, t.second, t.third, masks)
    (mask-cong 16 _ _ (λ j k. count-bit _ _ _ _ j k))
