-- The lowest set bit of a mask, and two starts that are two or more apart. Assumes nothing.
use mathlib.Core.Path.{◌≡◌, refl, sym, ap, subst, ◌∙◌}
use mathlib.Core.Bool.{Bool, true, false, not, ◌&&◌}
use Prim.Native.Nat.{ℕ, zero, suc, ◌+◌, ◌-◌, ◌*◌, ◌/◌, ◌%◌, ◌^◌, ◌≤◌, ◌<◌}
use native.Mathlib.Nat.{not-suc-le-zero, le_of_suc-le-suc, lt_of_not-le, lt_of_lt_of_le, mod-lt}
use native.Mathlib.Omega.{arith}
use lib.Dec.{T, eqb, leb, ltb, le→leb, ltb→lt, lt→ltb}
use lib.Bits.{bit_and, and_lt}
use lib.Count.{count_trailing_zeros, under}
use lib.Pow.{pow_pos, ones_sub-lt}
use Rattle.rules.specs.Tools.{any_below}
use Rattle.rules.specs.Bit.{bit, digit, mask_of}
use Rattle.rules.specs.Forbidden.{apart}
use Rattle.rules.proofs.Logic.{T_true, true-T, no_true, not-intro, not-elim, both_ways, and_left, and_right, and_intro}
use Rattle.rules.proofs.Logic.{any-elim, any-intro}
use Rattle.rules.proofs.Bits.{bit-suc, bit-none, bit-ext, low_bit, bit-and, bit_not, bit-shl-in, bit-ones, mask-ext, mask-any}
use Rattle.rules.proofs.More.{apart-elim, apart-intro}

-- ---- the lowest set bit

-- nothing is set below it
pub low_below : (w n j : ℕ) → j < count_trailing_zeros w n → bit n j ≡ false
unfolding count_trailing_zeros
low_below zero n j h = absurd (omega arith)
low_below (suc w) n zero h = go (bit n 0) refl (subst (λ (d : ℕ). 0 < under d (count_trailing_zeros w (n / 2))) (low_bit n) h)
  where
    go : (b : Bool) → bit n 0 ≡ b → 0 < under (digit (bit n 0)) (count_trailing_zeros w (n / 2)) → bit n 0 ≡ false
    go true e g = absurd (not-suc-le-zero (subst (λ (b : Bool). 0 < under (digit b) (count_trailing_zeros w (n / 2))) e g))
    go false e g = e
low_below (suc w) n (suc j) h =
    bit-suc n j
    ∙ go (λ g. low_below w (n / 2) j g) (bit n 0) (subst (λ (d : ℕ). suc j < under d (count_trailing_zeros w (n / 2))) (low_bit n) h)
  where
    go : (j < count_trailing_zeros w (n / 2) → bit (n / 2) j ≡ false) → (b : Bool) → suc j < under (digit b) (count_trailing_zeros w (n / 2))
        → bit (n / 2) j ≡ false
    go ih true g = absurd (not-suc-le-zero g)
    go ih false g = ih (le_of_suc-le-suc g)

-- it is set
pub low-set : (w n : ℕ) → count_trailing_zeros w n < w → bit n (count_trailing_zeros w n) ≡ true
unfolding count_trailing_zeros
low-set zero n h = absurd (omega arith)
low-set (suc w) n h =
    ap (λ (d : ℕ). bit n (under d (count_trailing_zeros w (n / 2)))) (low_bit n)
    ∙ go (λ g. low-set w (n / 2) g) (bit n 0) refl (subst (λ (d : ℕ). under d (count_trailing_zeros w (n / 2)) < suc w) (low_bit n) h)
  where
    go : (count_trailing_zeros w (n / 2) < w → bit (n / 2) (count_trailing_zeros w (n / 2)) ≡ true) → (b : Bool) → bit n 0 ≡ b
        → under (digit (bit n 0)) (count_trailing_zeros w (n / 2)) < suc w → bit n (under (digit (bit n 0)) (count_trailing_zeros w (n / 2))) ≡ true
    go ih true e g = ap (λ (b : Bool). bit n (under (digit b) (count_trailing_zeros w (n / 2)))) e ∙ e
    go ih false e g =
        ap (λ (b : Bool). bit n (under (digit b) (count_trailing_zeros w (n / 2)))) e ∙ bit-suc n (count_trailing_zeros w (n / 2))
        ∙ ih (le_of_suc-le-suc (subst (λ (b : Bool). under (digit b) (count_trailing_zeros w (n / 2)) < suc w) e g))

-- a mask that is not 0 has one
pub low-lt : (w n : ℕ) → n < 2 ^ w → (n ≡ 0 → ⊥) → count_trailing_zeros w n < w
low-lt w n h g =
    lt_of_not-le (λ k. g (bit-ext w n 0 h (pow_pos w) (λ j l. low_below w n j (lt_of_lt_of_le l k) ∙ sym (bit-none j))))

-- no set bit lies below it
pub low-le : (w n j : ℕ) → T (bit n j) → count_trailing_zeros w n ≤ j
low-le w n j e = le_of_suc-le-suc (lt_of_not-le (λ h. no_true (sym (low_below w n j h) ∙ T_true e)))

-- it is the one below which none is set
pub low-is : (w n k : ℕ) → k < w → bit n k ≡ true → ((i : ℕ) → i < k → bit n i ≡ false) → count_trailing_zeros w n ≡ k
low-is w n k h e none =
    let a : count_trailing_zeros w n ≤ k = low-le w n k (true-T e) in
    let b : k ≤ count_trailing_zeros w n = le_of_suc-le-suc (lt_of_not-le (λ l.
    no_true (sym (none (count_trailing_zeros w n) l) ∙ low-set w n (omega arith)))) in
    omega arith

-- ---- two starts two or more apart: one is left past the lowest and the next

left : ℕ → ℕ → ℕ → Bool
left s t j = bit s j && not (leb t j && ltb (j - t) 2)

left_over : (w s t : ℕ) → s < 2 ^ w → bit_and s ((2 ^ w - 1) - (3 * 2 ^ t) % 2 ^ w) ≡ mask_of w (left s t)
unfolding left
left_over w s t h =
    mask-ext w (bit_and s ((2 ^ w - 1) - (3 * 2 ^ t) % 2 ^ w)) (left s t)
    (and_lt w s ((2 ^ w - 1) - (3 * 2 ^ t) % 2 ^ w) h (ones_sub-lt w ((3 * 2 ^ t) % 2 ^ w)))
    (λ j l. bit-and s ((2 ^ w - 1) - (3 * 2 ^ t) % 2 ^ w) j ∙ ap (λ (b : Bool). bit s j && b)
    (bit_not ((3 * 2 ^ t) % 2 ^ w) w j (mod-lt (3 * 2 ^ t) (pow_pos w)) l
    ∙ ap not (bit-shl-in 3 t w j l ∙ ap (λ (b : Bool). leb t j && b) (bit-ones 2 (j - t)))))

-- t is any place that no start lies below, and itself a start where one lies two or more past it
pub apart-past : (w s t : ℕ) → s < 2 ^ w → ((j : ℕ) → T (bit s j) → t ≤ j) → ((j : ℕ) → j < w → t + 2 ≤ j → T (bit s j) → T (bit s t))
    → not (eqb (bit_and s ((2 ^ w - 1) - (3 * 2 ^ t) % 2 ^ w)) 0) ≡ apart w (bit s)
unfolding left
apart-past w s t h low on =
    ap (λ (x : ℕ). not (eqb x 0)) (left_over w s t h) ∙ mask-any w (left s t)
    ∙ both_ways (any_below w (left s t)) (apart w (bit s)) far near
  where
    far : T (any_below w (left s t)) → T (apart w (bit s))
    far u =
        let a = any-elim w (left s t) u in
        let j = a.0 in
        let is = and_left (bit s j) (not (leb t j && ltb (j - t) 2)) a.2 in
        let le : t ≤ j = low j is in
        let gap : t + 2 ≤ j = le_of_suc-le-suc (lt_of_not-le (λ k.
        not-elim (leb t j && ltb (j - t) 2) (and_right (bit s j) (not (leb t j && ltb (j - t) 2)) a.2)
        (and_intro (leb t j) (ltb (j - t) 2) (le→leb t j le) (lt→ltb (j - t) 2 (omega arith))))) in
        apart-intro w (bit s) (record { j = t; k = j; far = gap; k_lt = a.1; here = on j a.1 gap is; there = is })

    near : T (apart w (bit s)) → T (any_below w (left s t))
    near u =
        let p = apart-elim w (bit s) u in
        let le : t ≤ p.j = low p.j p.here in
        let f = p.far in
        any-intro w (left s t) p.k p.k_lt
        (and_intro (bit s p.k) (not (leb t p.k && ltb (p.k - t) 2)) p.there
        (not-intro (leb t p.k && ltb (p.k - t) 2) (λ x.
        let m : p.k - t < 2 = ltb→lt (p.k - t) 2 (and_right (leb t p.k) (ltb (p.k - t) 2) x) in
        omega arith)))
