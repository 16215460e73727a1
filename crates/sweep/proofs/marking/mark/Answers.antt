-- `sweep::marking::mark` meets its contract, bit by bit. Assumes nothing.
use mathlib.Core.Path.{◌∙◌}
use lib.Dec.{lit<}
use Rattle.rules.proofs.Bits.{mask-ext, bit-none}
use Rattle.masks.proofs.Windows.{below, one16, and-on, and-off}
use Rattle.sweep.proofs.marking.mark.Goals as goal

pub returns-then-on : goal.returns-then-on
returns-then-on c = mask-ext 16 _ _ (search below) (λ j k. one16 _ j k ∙ and-on _ _ c.if-on.true)

pub returns-else-on : goal.returns-else-on
returns-else-on c = mask-ext 16 _ _ (lit< tt) (λ j k. bit-none j ∙ and-off _ _ c.if-on.false)
