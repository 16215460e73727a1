-- `masks::digit_is` meets its contract. Assumes nothing.
use mathlib.Core.Path.{◌∙◌}
use Rattle.rules.proofs.Bits.{mask-ext, bit_not}
use Rattle.masks.proofs.Windows.{below, beq-on, beq-off}
use Rattle.masks.proofs.digit_is.Goals as goal

pub returns-then-on : goal.returns-then-on
returns-then-on c = mask-ext 16 _ _ (search below) (λ j k. beq-on _ _ c.if-on.true)

pub returns-else-on : goal.returns-else-on
returns-else-on c = mask-ext 16 _ _ (search below) (λ j k. bit_not _ 16 j (search below) k ∙ beq-off _ _ c.if-on.false)
