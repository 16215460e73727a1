-- `near::wide::beside_windows` meets its contract. Assumes nothing.
use Rattle.rules.specs.Line.{beside}
use Rattle.rules.proofs.Bits.{mask-ext, mask-none}
use Rattle.masks.proofs.Windows.{bits, and-on, and-off}
use Rattle.near.proofs.Places.{wide, shl64}
use mathlib.Core.Path.{sym}
use Rattle.near.proofs.wide.beside_windows.Goals as goal

pub returns-then-black : goal.returns-then-black
unfolding beside
returns-then-black c = mask-ext 64 _ _ (search wide) (λ j k. simp (bits, shl64) (and-on _ _ c.if-black.true))

pub returns-else-black : goal.returns-else-black
returns-else-black c = sym (mask-none 64 _ (λ j k. sym (and-off _ _ c.if-black.false)))
