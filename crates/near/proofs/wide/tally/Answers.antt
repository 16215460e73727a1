-- `near::wide::tally` meets its contract: bit by bit, by a table of the window's five cells. Assumes nothing.
use Rattle.rules.proofs.Bits.{mask-ext, bit-and, bit-or, bit-xor}
use Rattle.masks.proofs.Windows.{ones_bit, twos-bit, fours-bit, tallied-count}
use Rattle.near.proofs.Places.{wide}
use Rattle.near.proofs.wide.tally.Goals as goal

pub returns : goal.returns
returns c = tallied-count 64 _ _ _ _ (record {
  first = mask-ext 64 _ _ (search wide depth 9) (λ j k. simp (bit-and, bit-or, bit-xor) (ones_bit _ _ _ _ _ j));
  second = mask-ext 64 _ _ (search wide depth 9) (λ j k. simp (bit-and, bit-or, bit-xor) (twos-bit _ _ _ _ _ j));
  third = mask-ext 64 _ _ (search wide depth 9) (λ j k. simp (bit-and, bit-or, bit-xor) (fours-bit _ _ _ _ _ j));
})
