-- `near::words::four_back` meets its contract. Assumes nothing.
use Rattle.rules.proofs.Bits.{mask-ext, bit-or}
use Rattle.near.proofs.Places.{wide, four-moved}
use Rattle.near.proofs.words.four_back.Goals as goal

pub returns : goal.returns
returns c = mask-ext 64 _ _ (search wide) (λ k h. simp bit-or (four-moved _ k))
