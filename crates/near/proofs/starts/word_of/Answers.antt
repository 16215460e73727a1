-- `near::starts::word_of` meets its contract. Assumes nothing.
use Rattle.near.proofs.Places.{named-places}
use mathlib.Core.Path.{◌∙◌, ap}
use Prim.Native.Nat.{ℕ}
use lib.Bits.{bit_and}
use Rattle.near.proofs.starts.word_of.Goals as goal

pub returns : goal.returns
returns c = ap (λ (x : ℕ). bit_and x 9223231297218904063) c.joined.ensures ∙ named-places _
