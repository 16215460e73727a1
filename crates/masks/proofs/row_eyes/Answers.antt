-- `masks::row_eyes` meets its contract. Assumes nothing.
use Rattle.rules.proofs.Bits.{mask-cong}
use Rattle.masks.proofs.Windows.{eyes-bit}
use Rattle.masks.proofs.row_eyes.Goals as goal

pub returns : goal.returns
returns c = simp (c.eyes_of.ensures, c.row_starts-starts.ensures, c.eye_cells.ensures)
    (mask-cong 16 _ _ (λ j k. eyes-bit _ _ _ _ _ j k))
