-- Windows counted cell by cell: what a loop over a window's five cells has counted, and what the count says. Assumes nothing.
use mathlib.Core.Path.{◌≡◌, refl, sym}
use mathlib.Core.Bool.{Bool, true, false, not, ◌&&◌, ◌||◌}
use Prim.Native.Nat.{ℕ, zero, suc, ◌+◌, ◌-◌, ◌<◌}
use native.Mathlib.Nat.{add-zero}
use native.Mathlib.Numerals.{add-one}
use native.Mathlib.Omega.{arith}
use lib.Dec.{eqb}
use borrow.Author.Tests.{le-leb}
use Rattle.rules.specs.Bit.{digit}
use Rattle.rules.specs.Line.{Stones, free, count, beside, pair_at}
use Rattle.rules.specs.Forbidden.{gap_from}
use Rattle.rules.proofs.Tables.{table5}

-- the own stones on the first k cells of the window at j
unfoldable pub count_to : Stones → ℕ → ℕ → ℕ
count_to own j zero = 0
count_to own j (suc k) = count_to own j k + digit (own (j + k))

module _ (own : Stones) (j : ℕ) where
  pub count_none : 0 ≡ count_to own j 0
  unfolding count_to
  count_none = refl

  -- one cell more: with a stone, or without
  pub count-one : (k : ℕ) → own (j + k) ≡ true → count_to own j k + 1 ≡ count_to own j (k + 1)
  unfolding count_to
  count-one k e = rw (add-one k, e)

  pub count_same : (k : ℕ) → own (j + k) ≡ false → count_to own j k ≡ count_to own j (k + 1)
  unfolding count_to
  count_same k e = rw (add-one k, e) (sym (add-zero (count_to own j k)))

  pub count-all : count_to own j 5 ≡ count own j
  unfolding count_to count
  count-all = rw (add-zero j) (omega arith)

-- a window is free where no stone of the other colour is counted
pub count-free : (other : Stones) (j : ℕ) → eqb (count other j) 0 ≡ free other j
unfolding count free
count-free other j =
    table5 (λ a b c d e. eqb (digit a + digit b + digit c + digit d + digit e) 0) (λ a b c d e. not a && not b && not c && not d && not e)
    tt (other j) (other (j + 1)) (other (j + 2)) (other (j + 3)) (other (j + 4))

-- the cells beside a window: before the first cell of a line there is none
pub beside_first : (own : Stones) (j : ℕ) → j ≡ 0 → own (j + 5) ≡ beside own j
unfolding beside
beside_first own j e = rw e

pub beside-later : (own : Stones) (j : ℕ) → (j ≡ 0 → ⊥) → (own (j - 1) || own (j + 5)) ≡ beside own j
unfolding beside
beside-later own j n = rw (le-leb 1 j (omega arith))

-- windows j−1 and j: before the first there is none
pub pair-first : (w : ℕ → Bool) (j : ℕ) → j ≡ 0 → false ≡ pair_at w j
unfolding pair_at
pair-first w j e = rw e

pub pair-later : (w : ℕ → Bool) (j : ℕ) → (j ≡ 0 → ⊥) → (w (j - 1) && w j) ≡ pair_at w j
unfolding pair_at
pair-later w j n = rw (le-leb 1 j (omega arith))

-- a search over the cells j, j + 1 and j + 2 for one with no own stone
module _ (own : Stones) (j : ℕ) where
  gap_first : {k : ℕ} → ((m : ℕ) → m < k → own (j + m) ≡ true) → 0 < k → own j ≡ true
  gap_first full h = rw (add-zero j) at (full 0 h)

  pub gap_found : (k : ℕ) → k < 3 → ((m : ℕ) → m < k → own (j + m) ≡ true) → own (j + k) ≡ false → j + k ≡ gap_from own j
  unfolding gap_from
  gap_found zero h full e = let none : own j ≡ false = rw (add-zero j) at e in rw none (add-zero j)
  gap_found (suc zero) h full e = rw (gap_first full (omega arith), e)
  gap_found (suc (suc zero)) h full e = rw (gap_first full (omega arith), full 1 (omega arith), e)
  gap_found (suc (suc (suc k))) h full e = absurd (omega arith)

  pub gap_last : ((m : ℕ) → m < 3 → own (j + m) ≡ true) → j + 3 ≡ gap_from own j
  unfolding gap_from
  gap_last full = rw (gap_first full (omega arith), full 1 (omega arith), full 2 (omega arith))
