-- More than one start in a word: past the first start and the next place one is left. Assumes nothing.
use mathlib.Core.Path.{◌≡◌, sym, ap, ap₂, ◌∙◌}
use mathlib.Core.Logic.{◌⊎◌, inl, inr}
use mathlib.Core.Bool.{Bool, not, ◌&&◌, ◌||◌}
use Prim.Native.Nat.{ℕ, ◌+◌, ◌-◌, ◌*◌, ◌%◌, ◌^◌, ◌≤◌, ◌<◌}
use native.Mathlib.Omega.{arith}
use lib.Dec.{T, eqb, leb, lit<, eqb→eq}
use lib.Bits.{bit_and, bit_or, or_lt}
use lib.Count.{count_trailing_zeros}
use Rattle.rules.specs.Bit.{bit, mask_of}
use Rattle.rules.specs.Forbidden.{apart}
use Rattle.rules.proofs.Logic.{T_true, true-T, no_true, along, or_left, or_right, or_cases, any-cong}
use Rattle.rules.proofs.Bits.{bit-or, bit-one, bit-none, bit_mask}
use Rattle.masks.proofs.Lowest.{low-lt, low-le, low-set, apart-past}

-- the first start, where the last place stands in for it
first : ℕ → ℕ
first s = count_trailing_zeros 64 (bit_or s (2 ^ 63))

with-last : (s j : ℕ) → bit (bit_or s (2 ^ 63)) j ≡ (bit s j || eqb j 63)
with-last s j = bit-or s (2 ^ 63) j ∙ ap (λ (b : Bool). bit s j || b) (bit-one 63 j)

pub first-lt : (s : ℕ) → s < 2 ^ 64 → count_trailing_zeros 64 (bit_or s (2 ^ 63)) < 64
first-lt s h =
    low-lt 64 (bit_or s (2 ^ 63)) (or_lt 64 s (2 ^ 63) h (lit< tt))
    (λ z. no_true (sym (bit-none 63) ∙ ap (λ (x : ℕ). bit x 63) (sym z) ∙ with-last s 63 ∙ T_true (or_right (bit s 63) (eqb 63 63) tt)))

pub past_first : (s : ℕ) → s < 2 ^ 64
    → not (eqb (bit_and s ((2 ^ 64 - 1) - (3 * 2 ^ count_trailing_zeros 64 (bit_or s (2 ^ 63))) % 2 ^ 64)) 0) ≡ apart 64 (bit s)
unfolding first
past_first s h =
    apart-past 64 s (first s) h (λ j e. low-le 64 (bit_or s (2 ^ 63)) j (along (sym (with-last s j)) (or_left (bit s j) (eqb j 63) e)))
    (λ j l gap e. on j l gap (or_cases (bit s (first s)) (eqb (first s) 63)
    (along (with-last s (first s)) (true-T (low-set 64 (bit_or s (2 ^ 63)) (first-lt s h))))))
  where
    on : (j : ℕ) → j < 64 → first s + 2 ≤ j → T (bit s (first s)) ⊎ T (eqb (first s) 63) → T (bit s (first s))
    on j l gap (inl t) = t
    on j l gap (inr t) = let q : first s ≡ 63 = eqb→eq (first s) 63 t in absurd (omega arith)

-- of the mask of a test it is the test that counts
pub apart-mask : (f : ℕ → Bool) → apart 64 (bit (mask_of 64 f)) ≡ apart 64 f
unfolding apart
apart-mask f =
    any-cong 64 _ _ (λ j l. ap₂ ◌&&◌ (bit_mask 64 f j l)
    (any-cong 64 _ _ (λ k m. ap (λ (x : Bool). leb (j + 2) k && x) (bit_mask 64 f k m))))
