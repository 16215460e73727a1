-- `masks::starts_between` meets its contract. Assumes nothing.
use mathlib.Core.Path.{◌∙◌}
use Rattle.rules.proofs.Bits.{mask-cong}
use Rattle.masks.proofs.Windows.{masks, up_to, up-to-all}
use Rattle.masks.proofs.starts_between.Goals as goal

pub returns-then-last-lt16 : goal.returns-then-last-lt16
returns-then-last-lt16 c = simp (c.bits_from.ensures, c.bits_below.ensures, masks, up_to)

pub returns-else-last-lt16 : goal.returns-else-last-lt16
returns-else-last-lt16 c = c.bits_from-else-last-lt16.ensures ∙ mask-cong 16 _ _ (λ j k. up-to-all _ _ j k c.if-last-lt16.false)
