-- The first gap of a mask's stones from a cell on, by the lowest set bit. Assumes nothing.
use mathlib.Core.Path.{◌≡◌, refl, sym, ap, ap₂, ◌∙◌}
use mathlib.Core.Bool.{Bool, true, false, not, ◌||◌, cond}
use Prim.Native.Nat.{ℕ, zero, suc, ◌+◌, ◌-◌, ◌/◌, ◌^◌, ◌≤◌, ◌<◌}
use native.Mathlib.Nat.{add_comm}
use native.Mathlib.Omega.{arith}
use lib.Dec.{eqb}
use lib.Bits.{bit_or}
use lib.Count.{count_trailing_zeros}
use borrow.Author.Tests.{ne_eqb}
use Rattle.rules.specs.Bit.{bit}
use Rattle.rules.specs.Forbidden.{gap_from}
use Rattle.rules.proofs.Logic.{true-T}
use Rattle.rules.proofs.Bits.{bit-or, bit-one, bit_not, bit-shr, bit-above}
use Rattle.masks.proofs.Windows.{shr_lt}
use Rattle.masks.proofs.Lowest.{low-is, low-le}

-- past a mask's bits there is no stone
pub gap-none : (s j : ℕ) → s < 2 ^ 16 → 16 ≤ j → j ≡ gap_from (bit s) j
unfolding gap_from
gap-none s j h l = sym (ap (λ (b : Bool). cond b (cond (bit s (j + 1)) (cond (bit s (j + 2)) (j + 3) (j + 2)) (j + 1)) j)
    (bit-above s 16 j h l))

module _ (s j : ℕ) (h : s < 2 ^ 16) where
  abbrev gaps : ℕ
  gaps = bit_or (65535 - s / 2 ^ j) 8

  gap-bit : (i : ℕ) → i < 16 → bit gaps i ≡ (not (bit s (j + i)) || eqb i 3)
  gap-bit i l =
      bit-or (65535 - s / 2 ^ j) 8 i
      ∙ ap₂ (λ (a b : Bool). a || b)
      (bit_not (s / 2 ^ j) 16 i (shr_lt 16 s (2 ^ j) h) l ∙ ap not (bit-shr s j i ∙ ap (bit s) (add_comm i j)))
      (bit-one 3 i)

  third : bit gaps 3 ≡ true
  third = gap-bit 3 (omega arith) ∙ last (bit s (j + 3))
    where
      last : (b : Bool) → (not b || true) ≡ true
      last true = refl
      last false = refl

  pub gap-small : count_trailing_zeros 16 (bit_or (65535 - s / 2 ^ j) 8) ≤ 3
  gap-small = low-le 16 gaps 3 (true-T third)

  at : (i : ℕ) (b : Bool) → i < 3 → bit s (j + i) ≡ b → bit gaps i ≡ not b
  at i b l e = gap-bit i (omega arith) ∙ ap₂ (λ (x y : Bool). not x || y) e (ne_eqb i 3 (λ q. omega arith)) ∙ same b
    where
      same : (b : Bool) → (not b || false) ≡ not b
      same true = refl
      same false = refl

  pub gap-low : j < 16 → j + count_trailing_zeros 16 (bit_or (65535 - s / 2 ^ j) 8) ≡ gap_from (bit s) j
  unfolding gap_from
  gap-low l = go (bit s j) (bit s (j + 1)) (bit s (j + 2)) (ap (bit s) (omega arith)) refl refl
    where
      none : (k : ℕ) → (i : ℕ) → i < k → k ≤ 3 → (bit s (j + 0) ≡ true) → (1 < k → bit s (j + 1) ≡ true) → (2 < k → bit s (j + 2) ≡ true)
          → bit gaps i ≡ false
      none k zero a b e0 e1 e2 = at 0 true (omega arith) e0
      none k (suc zero) a b e0 e1 e2 = at 1 true (omega arith) (e1 (omega arith))
      none k (suc (suc zero)) a b e0 e1 e2 = at 2 true (omega arith) (e2 (omega arith))
      none k (suc (suc (suc i))) a b e0 e1 e2 = absurd (omega arith)

      go : (x y z : Bool) → bit s (j + 0) ≡ x → bit s (j + 1) ≡ y → bit s (j + 2) ≡ z
          → j + count_trailing_zeros 16 gaps ≡ cond x (cond y (cond z (j + 3) (j + 2)) (j + 1)) j
      go false y z e0 e1 e2 =
          ap (λ (t : ℕ). j + t) (low-is 16 gaps 0 (omega arith) (at 0 false (omega arith) e0) (λ i a. absurd (omega arith))) ∙ omega arith
      go true false z e0 e1 e2 =
          ap (λ (t : ℕ). j + t) (low-is 16 gaps 1 (omega arith) (at 1 false (omega arith) e1)
          (λ i a. none 1 i a (omega arith) e0 (λ q. absurd (omega arith)) (λ q. absurd (omega arith))))
      go true true false e0 e1 e2 =
          ap (λ (t : ℕ). j + t) (low-is 16 gaps 2 (omega arith) (at 2 false (omega arith) e2)
          (λ i a. none 2 i a (omega arith) e0 (λ q. e1) (λ q. absurd (omega arith))))
      go true true true e0 e1 e2 =
          ap (λ (t : ℕ). j + t) (low-is 16 gaps 3 (omega arith) third (λ i a. none 3 i a (omega arith) e0 (λ q. e1) (λ q. e2)))
