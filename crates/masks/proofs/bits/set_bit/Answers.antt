-- `masks::set_bit` meets its contract, bit by bit. Assumes nothing.
use Rattle.rules.proofs.Bits.{mask-ext, bit-or, bit-and}
use Rattle.masks.proofs.Windows.{below, one16, not-one16, past, set_on, set-off}
use Rattle.masks.proofs.bits.set_bit.Goals as goal

pub returns-then-i-ge16 : goal.returns-then-i-ge16
returns-then-i-ge16 c = mask-ext 16 _ _ (search below) (λ j k. rw (past c.args.i j k c.if-i-ge16.true))

pub returns-then-on : goal.returns-then-on
returns-then-on c = mask-ext 16 _ _ (search below) (λ j k. simp (bit-or, one16) (set_on _ _ j _ c.if-on.true))

pub returns-else-on : goal.returns-else-on
returns-else-on c = mask-ext 16 _ _ (search below) (λ j k. simp (bit-and, not-one16) (set-off _ _ j _ c.if-on.false))
