-- `masks::tally` meets its contract: bit by bit, by a table of the five masks. Assumes nothing.
use Rattle.rules.proofs.Bits.{mask-ext}
use Rattle.masks.proofs.Windows.{below, bits, ones_bit, twos-bit, fours-bit}
use Rattle.masks.proofs.tally.Goals as goal

pub returns : goal.returns
returns c = record {
  first = mask-ext 16 _ _ (search below depth 9) (λ j k. simp bits (ones_bit _ _ _ _ _ j));
  second = mask-ext 16 _ _ (search below depth 9) (λ j k. simp bits (twos-bit _ _ _ _ _ j));
  third = mask-ext 16 _ _ (search below depth 9) (λ j k. simp bits (fours-bit _ _ _ _ _ j));
}
