-- `masks::overline` meets its contract, bit by bit. Assumes nothing.
use mathlib.Core.Path.{◌∙◌}
use lib.Dec.{lit<}
use Rattle.rules.specs.Line.{beside}
use Rattle.rules.proofs.Bits.{mask-ext, bit-none}
use Rattle.masks.proofs.Windows.{below, bits, shl1, and-on, and-off}
use Rattle.masks.proofs.overline.Goals as goal

pub returns-then-black : goal.returns-then-black
unfolding beside
returns-then-black c = mask-ext 16 _ _ (search below) (λ j k. simp (bits, shl1) (and-on _ _ c.if-black.true))

pub returns-else-black : goal.returns-else-black
returns-else-black c = mask-ext 16 _ _ (lit< tt) (λ j k. bit-none j ∙ and-off _ _ c.if-black.false)
