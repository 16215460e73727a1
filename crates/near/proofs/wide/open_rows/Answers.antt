-- `near::wide::open_rows` meets its contract, bit by bit. Assumes nothing.
use mathlib.Core.Path.{ap, ◌∙◌}
use mathlib.Core.Bool.{Bool, not, ◌&&◌}
use Prim.Native.Nat.{◌/◌}
use Rattle.rules.proofs.Bits.{mask-ext, bit_not}
use Rattle.masks.proofs.Windows.{bits, shr4}
use Rattle.near.specs.Windows.{pair_in}
use Rattle.near.proofs.Places.{wide, shl64}
use Rattle.near.proofs.wide.open_rows.Goals as goal

pub returns : goal.returns
returns c = mask-ext 64 _ _ (search wide) (λ j k. simp (bits, shl64)
    (ap (λ (b : Bool). pair_in c.args.scored j && b)
    (bit_not (c.args.own / 16) 64 j (search wide) k ∙ ap not (shr4 c.args.own j))))
