-- `masks::moved` meets its contract, bit by bit. Assumes nothing.
use mathlib.Core.Path.{sym, ◌∙◌}
use lib.Dec.{lit<}
use borrow.Author.Tests.{eq-eqb, ne_eqb}
use Rattle.rules.proofs.Bits.{mask-ext, bit-none, bit-read, bit-shl-in}
use Rattle.masks.proofs.Windows.{below, and-on, and-off}
use Rattle.masks.proofs.moved.Goals as goal

pub returns-then-cells-k-eq1 : goal.returns-then-cells-k-eq1
returns-then-cells-k-eq1 c = mask-ext 16 _ _ (search below) (λ j k. bit-shl-in _ _ 16 j k ∙ and-on _ _ (sym (bit-read _ _) ∙ eq-eqb _ 1 c.if-cells-k-eq1.true))

pub returns-else-cells-k-eq1 : goal.returns-else-cells-k-eq1
returns-else-cells-k-eq1 c = mask-ext 16 _ _ (lit< tt) (λ j k. bit-none j ∙ and-off _ _ (sym (bit-read _ _) ∙ ne_eqb _ 1 c.if-cells-k-eq1.false))
