-- The first set bit of a word from a place on. Assumes nothing.
use mathlib.Core.Path.{◌≡◌, sym, ap, ◌∙◌}
use mathlib.Core.Bool.{Bool, true}
use Prim.Native.Nat.{ℕ, ◌+◌, ◌-◌, ◌/◌, ◌^◌, ◌<◌}
use native.Mathlib.Nat.{lt_of_le_of_lt, div-le_self, lt_of_not-le}
use native.Mathlib.Omega.{arith}
use lib.Count.{count_trailing_zeros}
use Rattle.rules.specs.Bit.{bit, mask_of}
use Rattle.rules.specs.Grid.{next_from}
use Rattle.rules.proofs.Logic.{true-T, no_true}
use Rattle.rules.proofs.Bits.{bit-shr, bit-above, bit-none, bit_mask}
use Rattle.rules.proofs.Numbered.{next-is, next-end, next-same}
use Rattle.masks.proofs.Lowest.{low_below, low-set, low-lt}

pub next-zero : (m n : ℕ) → m / 2 ^ n ≡ 0 → 64 ≡ next_from (bit m) n
next-zero m n z =
    sym (next-end (bit m) n (λ j l k.
    ap (bit m) (omega arith) ∙ sym (bit-shr m n (j - n)) ∙ ap (λ (x : ℕ). bit x (j - n)) z ∙ bit-none (j - n)))

module _ (m n : ℕ) (fits : m < 2 ^ 64) (some : m / 2 ^ n ≡ 0 → ⊥) where
  abbrev low : ℕ
  low = count_trailing_zeros 64 (m / 2 ^ n)

  low-on : bit m (n + low) ≡ true
  low-on =
      ap (bit m) (omega arith) ∙ sym (bit-shr m n low)
      ∙ low-set 64 (m / 2 ^ n) (low-lt 64 (m / 2 ^ n) (lt_of_le_of_lt (div-le_self m (2 ^ n)) fits) some)

  low-place : n + count_trailing_zeros 64 (m / 2 ^ n) < 64
  low-place = lt_of_not-le (λ h. no_true (sym (bit-above m 64 (n + low) fits h) ∙ low-on))

  pub next_low : n + count_trailing_zeros 64 (m / 2 ^ n) ≡ next_from (bit m) n
  next_low =
      sym (next-is (bit m) n (n + low) (omega arith) low-place (true-T low-on) (λ j l h.
      ap (bit m) (omega arith) ∙ sym (bit-shr m n (j - n)) ∙ low_below 64 (m / 2 ^ n) (j - n) (omega arith)))

-- of the mask of a test it is the test that counts
pub next-mask : (f : ℕ → Bool) (n : ℕ) {m : ℕ} → m ≡ mask_of 64 f → next_from (bit m) n ≡ next_from f n
next-mask f n {m} e = ap (λ (x : ℕ). next_from (bit x) n) e ∙ next-same (bit (mask_of 64 f)) f n (bit_mask 64 f)
