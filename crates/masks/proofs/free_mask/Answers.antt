-- `masks::free_mask` meets its contract, bit by bit. Assumes nothing.
use mathlib.Core.Path.{◌∙◌}
use Rattle.rules.proofs.Bits.{mask-ext, bit_not}
use Rattle.masks.proofs.Windows.{below, bits, free-bit}
use Rattle.masks.proofs.free_mask.Goals as goal

pub returns : goal.returns
returns c = mask-ext 16 _ _ (search below) (λ j k. bit_not _ 16 j (search below) k ∙ simp bits (free-bit c.args.op j))
