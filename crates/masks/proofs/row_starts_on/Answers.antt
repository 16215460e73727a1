-- `masks::row_starts_on` meets its contract. Assumes nothing.
use Rattle.rules.proofs.Bits.{mask-cong}
use Rattle.masks.proofs.Windows.{masks, through-bit}
use Rattle.masks.proofs.row_starts_on.Goals as goal

pub returns : goal.returns
returns c = simp (c.row_starts.ensures, c.starts_between.ensures, c.first_through.ensures, masks)
    (mask-cong 16 _ _ (λ j k. simp through-bit))
