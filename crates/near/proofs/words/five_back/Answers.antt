-- `near::words::five_back` meets its contract. Assumes nothing.
use mathlib.Core.Path.{◌∙◌, ap}
use mathlib.Core.Bool.{Bool, ◌||◌}
use Prim.Native.Nat.{ℕ, ◌/◌}
use Rattle.rules.specs.Bit.{bit}
use Rattle.rules.proofs.Bits.{mask-ext, bit-or, bit_mask}
use Rattle.near.proofs.Places.{wide, five-after}
use Rattle.near.proofs.words.five_back.Goals as goal

pub returns : goal.returns
returns c =
    mask-ext 64 _ _ (search wide) (λ k h.
    bit-or _ _ k
    ∙ ap (λ (b : Bool). b || bit (c.args.spots / 16) k) (ap (λ (m : ℕ). bit m k) c.four_back.ensures ∙ bit_mask 64 _ k h)
    ∙ five-after c.args.spots k)
