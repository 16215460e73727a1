-- The windows that pass a test and hold two, three or four stones, by two binary digits of their count, at any width. Assumes nothing.
use mathlib.Core.Path.{◌≡◌, ap, ap₂, ◌∙◌}
use mathlib.Core.Bool.{Bool, not, ◌&&◌, beq}
use Prim.Native.Nat.{ℕ, ◌-◌, ◌^◌, ◌≤◌}
use native.Mathlib.Omega.{arith}
use lib.Dec.{T, eqb}
use lib.Bits.{bit_and}
use Rattle.rules.specs.Tools.{all_below}
use Rattle.rules.specs.Bit.{bit, mask_of}
use Rattle.rules.proofs.Logic.{all-elim}
use Rattle.rules.proofs.Tables.{table3, beq-eq}
use Rattle.rules.proofs.Bits.{mask-and, mask-not, mask-cong}
use Rattle.masks.specs.Masks.{Tallied}

-- a number up to five is told by two of its digits
abbrev two_in : ℕ → Bool
two_in n = bit n 1 && not (bit n 0)

abbrev three_in : ℕ → Bool
three_in n = bit n 1 && bit n 0

abbrev four_in : ℕ → Bool
four_in n = bit n 2 && not (bit n 0)

told : (digits : ℕ → Bool) (k : ℕ) → T (all_below 6 (λ n. beq (digits n) (eqb n k))) → (n : ℕ) → n ≤ 5 → digits n ≡ eqb n k
told digits k t n h = beq-eq (digits n) (eqb n k) (all-elim 6 (λ n. beq (digits n) (eqb n k)) t n (omega arith))

joined : (p x y z : Bool) → (x && y) ≡ z → (p && x && y) ≡ (p && z)
joined p x y z e = and_assoc p x y ∙ ap (λ (b : Bool). p && b) e
  where
    and_assoc : (a b c : Bool) → (a && b && c) ≡ (a && (b && c))
    and_assoc a b c = table3 (λ a b c. a && b && c) (λ a b c. a && (b && c)) tt a b c

module _ (w : ℕ) (counts : ℕ → ℕ) (small : (j : ℕ) → counts j ≤ 5) (pass : ℕ → Bool) {m ones twos fours : ℕ} (e : m ≡ mask_of w pass)
    (t : Tallied w counts ones twos fours) where
  -- two digits of a tally, the second as it is or taken away
  with-ones : (digit k : ℕ) {d : ℕ} → d ≡ mask_of w (λ j. bit (counts j) digit)
      → ((n : ℕ) → n ≤ 5 → (bit n digit && bit n 0) ≡ eqb n k)
      → bit_and (bit_and m d) ones ≡ mask_of w (λ j. pass j && eqb (counts j) k)
  with-ones digit k ed h =
      ap₂ bit_and (ap₂ bit_and e ed ∙ mask-and w pass (λ j. bit (counts j) digit)) t.first
      ∙ mask-and w (λ j. pass j && bit (counts j) digit) (λ j. bit (counts j) 0)
      ∙ mask-cong w _ _ (λ j l. joined (pass j) (bit (counts j) digit) (bit (counts j) 0) (eqb (counts j) k) (h (counts j) (small j)))

  without-ones : (digit k : ℕ) {d : ℕ} → d ≡ mask_of w (λ j. bit (counts j) digit)
      → ((n : ℕ) → n ≤ 5 → (bit n digit && not (bit n 0)) ≡ eqb n k)
      → bit_and (bit_and m d) ((2 ^ w - 1) - ones) ≡ mask_of w (λ j. pass j && eqb (counts j) k)
  without-ones digit k ed h =
      ap₂ bit_and (ap₂ bit_and e ed ∙ mask-and w pass (λ j. bit (counts j) digit))
      (ap (λ (x : ℕ). (2 ^ w - 1) - x) t.first ∙ mask-not w (λ j. bit (counts j) 0))
      ∙ mask-and w (λ j. pass j && bit (counts j) digit) (λ j. not (bit (counts j) 0))
      ∙ mask-cong w _ _ (λ j l. joined (pass j) (bit (counts j) digit) (not (bit (counts j) 0)) (eqb (counts j) k) (h (counts j) (small j)))

  pub holds-two : bit_and (bit_and m twos) ((2 ^ w - 1) - ones) ≡ mask_of w (λ j. pass j && eqb (counts j) 2)
  unfolding all_below bit
  holds-two = without-ones 1 2 t.second (told two_in 2 tt)

  pub holds-three : bit_and (bit_and m twos) ones ≡ mask_of w (λ j. pass j && eqb (counts j) 3)
  unfolding all_below bit
  holds-three = with-ones 1 3 t.second (told three_in 3 tt)

  pub holds-four : bit_and (bit_and m fours) ((2 ^ w - 1) - ones) ≡ mask_of w (λ j. pass j && eqb (counts j) 4)
  unfolding all_below bit
  holds-four = without-ones 2 4 t.third (told four_in 4 tt)
