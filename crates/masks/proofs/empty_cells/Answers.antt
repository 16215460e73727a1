-- `masks::empty_cells` meets its contract. Assumes nothing.
use Rattle.rules.proofs.Bits.{mask-cong}
use Rattle.masks.proofs.Windows.{empty-bit, or16, masks, below, not-bits}
use Rattle.masks.proofs.empty_cells.Goals as goal

pub returns : goal.returns
returns c = simp (
  c.bits_below.ensures,
  not-bits _ (or16 c.args.my c.args.op (search below) (search below)),
  masks,
)
    (mask-cong 16 _ _ (λ j k. empty-bit _ _ _ j))
