-- `near::wide::free_windows` meets its contract, bit by bit. Assumes nothing.
use mathlib.Core.Path.{◌∙◌}
use Rattle.rules.proofs.Bits.{mask-ext, bit_not}
use Rattle.masks.proofs.Windows.{bits, free-bit}
use Rattle.near.proofs.Places.{wide}
use Rattle.near.proofs.wide.free_windows.Goals as goal

pub returns : goal.returns
returns c = mask-ext 64 _ _ (search wide) (λ j k. bit_not _ 64 j (search wide) k ∙ simp bits (free-bit c.args.blocked j))
