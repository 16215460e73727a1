-- The order of byte lists: as a loop compares them, that it is the one of arrays, and that it is one: of two lists one is less, or they are the same. Assumes nothing.
use mathlib.Core.Path.{◌≡◌, refl, sym, ap₂, ◌∙◌}
use mathlib.Core.Logic.{◌⊎◌, inl, inr}
use mathlib.Core.Bool.{true, false}
use mathlib.Core.List.{List, [], ◌∷◌}
use Prim.Native.Nat.{ℕ, ◌+◌, ◌≤◌, ◌<◌}
use native.Mathlib.Omega.{arith}
use native.Mathlib.Numerals.{add-one}
use lib.Dec.{eqb, ltb}
use lib.ListN.{length, get_or, drop, drop_of_length-le}
use lib.Seq.{drop-cons}
use borrow.Author.Tests.{eq-eqb, ne_eqb, eqb-true, eqb-false, ltb-true, ltb-false, lt-ltb, le-ltb}
use Rattle.std.specs.Prelude.{Some}
use Rattle.std.specs.Ordering.{nat_cmp, partial_lt}
use Rattle.std.specs.Cmp.Lexicographic.{slice_partial_cmp}
use Rattle.rules.proofs.Logic.{decide, no_true}
use Rattle.canonical.specs.Canonical.{less}

-- ---- as a loop compares: byte by byte

pub less-more : (s t : List ℕ) (i : ℕ) → i < length s → i < length t → get_or s i 0 ≡ get_or t i 0
    → less (drop i s) (drop i t) ≡ less (drop (i + 1) s) (drop (i + 1) t)
unfolding less
less-more s t i hs ht e = rw (drop-cons s i 0 hs, drop-cons t i 0 ht, add-one i, eq-eqb (get_or s i 0) (get_or t i 0) e)

pub less-differ : (s t : List ℕ) (i : ℕ) → i < length s → i < length t → (get_or s i 0 ≡ get_or t i 0 → ⊥)
    → less (drop i s) (drop i t) ≡ ltb (get_or s i 0) (get_or t i 0)
unfolding less
less-differ s t i hs ht e = rw (drop-cons s i 0 hs, drop-cons t i 0 ht, ne_eqb (get_or s i 0) (get_or t i 0) e)

-- the first ends before the second; the second is at its end
pub less-short : (s t : List ℕ) (i : ℕ) → length s ≤ i → i < length t → less (drop i s) (drop i t) ≡ true
unfolding less
less-short s t i hs ht = rw (drop_of_length-le s {i = i} hs, drop-cons t i 0 ht)

pub less-end : (s t : List ℕ) (i : ℕ) → length t ≤ i → less (drop i s) (drop i t) ≡ false
unfolding less
less-end s t i h = rw (drop_of_length-le t {i = i} h) (none (drop i s))
  where
    none : (r : List ℕ) → less r [] ≡ false
    none [] = refl
    none (a ∷ r) = refl

-- ---- as arrays of bytes are compared

pub less_lt : (s t : List ℕ) → partial_lt (slice_partial_cmp (λ (x y : ℕ). Some (nat_cmp x y))) s t ≡ less s t
unfolding less
less_lt [] [] = refl
less_lt [] (y ∷ t) = refl
less_lt (x ∷ s) [] = refl
less_lt (x ∷ s) (y ∷ t) = go (decide (ltb x y)) (decide (eqb x y)) (less_lt s t)
  where
    go : (ltb x y ≡ true) ⊎ (ltb x y ≡ false) → (eqb x y ≡ true) ⊎ (eqb x y ≡ false)
        → partial_lt (slice_partial_cmp (λ (x y : ℕ). Some (nat_cmp x y))) s t ≡ less s t
        → partial_lt (slice_partial_cmp (λ (x y : ℕ). Some (nat_cmp x y))) (x ∷ s) (y ∷ t) ≡ less (x ∷ s) (y ∷ t)
    go (inl l) e more = let h = ltb-true x y l in rw (l, ne_eqb x y (λ q. omega arith))
    go (inr l) (inl e) more = rw (l, e) more
    go (inr l) (inr e) more = rw (l, e)

-- ---- an order

pub less-self : (s : List ℕ) → less s s ≡ false
unfolding less
less-self [] = refl
less-self (a ∷ s) = rw (eq-eqb a a refl) (less-self s)

-- no two lists are less than one another
pub less-not : (a b : List ℕ) → less a b ≡ true → less b a ≡ false
unfolding less
less-not [] [] p = refl
less-not [] (y ∷ t) p = refl
less-not (x ∷ r) [] p = absurd (no_true p)
less-not (x ∷ r) (y ∷ t) p = go (decide (eqb x y)) (less-not r t)
  where
    go : (eqb x y ≡ true) ⊎ (eqb x y ≡ false) → (less r t ≡ true → less t r ≡ false) → less (y ∷ t) (x ∷ r) ≡ false
    go (inl e) more =
        let q : less r t ≡ true = rw e at p in
        rw (eq-eqb y x (sym (eqb-true x y e))) (more q)
    go (inr e) more =
        let n = eqb-false x y e in
        let q : ltb x y ≡ true = rw e at p in
        let h = ltb-true x y q in
        rw (ne_eqb y x (λ z. n (sym z))) (le-ltb y x (omega arith))

-- lists of which neither is less are the same
pub less-same : (a b : List ℕ) → less a b ≡ false → less b a ≡ false → a ≡ b
unfolding less
less-same [] [] p q = refl
less-same [] (y ∷ t) p q = absurd (no_true (sym p))
less-same (x ∷ r) [] p q = absurd (no_true (sym q))
less-same (x ∷ r) (y ∷ t) p q = go (decide (eqb x y)) (less-same r t)
  where
    go : (eqb x y ≡ true) ⊎ (eqb x y ≡ false) → (less r t ≡ false → less t r ≡ false → r ≡ t) → x ∷ r ≡ y ∷ t
    go (inl e) more =
        let same = eqb-true x y e in
        let m : less r t ≡ false = rw e at p in
        let k : less t r ≡ false = rw (eq-eqb y x (sym same)) at q in
        ap₂ (λ (z : ℕ) (l : List ℕ). z ∷ l) same (more m k)
    go (inr e) more =
        let n = eqb-false x y e in
        let m : ltb x y ≡ false = rw e at p in
        let k : ltb y x ≡ false = rw (ne_eqb y x (λ z. n (sym z))) at q in
        let hm = ltb-false x y m in
        let hk = ltb-false y x k in
        absurd (n (omega arith))

-- what is less than a list is less than one that is not less than that
pub less-over : (a b c : List ℕ) → less a b ≡ true → less c b ≡ false → less a c ≡ true
unfolding less
less-over [] [] c p q = absurd (no_true p)
less-over (x ∷ r) [] c p q = absurd (no_true p)
less-over [] (y ∷ t) [] p q = absurd (no_true (sym q))
less-over [] (y ∷ t) (z ∷ u) p q = refl
less-over (x ∷ r) (y ∷ t) [] p q = absurd (no_true (sym q))
less-over (x ∷ r) (y ∷ t) (z ∷ u) p q = go (decide (eqb x y)) (decide (eqb z y)) (less-over r t u)
  where
    ahead : x < z → less (x ∷ r) (z ∷ u) ≡ true
    ahead h = rw (ne_eqb x z (λ e. omega arith)) (lt-ltb x z h)

    go : (eqb x y ≡ true) ⊎ (eqb x y ≡ false) → (eqb z y ≡ true) ⊎ (eqb z y ≡ false)
        → (less r t ≡ true → less u t ≡ false → less r u ≡ true) → less (x ∷ r) (z ∷ u) ≡ true
    go (inl e) (inl f) more =
        let m : less r t ≡ true = rw e at p in
        let k : less u t ≡ false = rw f at q in
        rw (eq-eqb x z (eqb-true x y e ∙ sym (eqb-true z y f))) (more m k)
    go (inl e) (inr f) more =
        let same = eqb-true x y e in
        let n = eqb-false z y f in
        let k : ltb z y ≡ false = rw f at q in
        let hk = ltb-false z y k in
        ahead (omega arith)
    go (inr e) (inl f) more =
        let same = eqb-true z y f in
        let m : ltb x y ≡ true = rw e at p in
        let hm = ltb-true x y m in
        ahead (omega arith)
    go (inr e) (inr f) more =
        let m : ltb x y ≡ true = rw e at p in
        let hm = ltb-true x y m in
        let k : ltb z y ≡ false = rw f at q in
        let hk = ltb-false z y k in
        ahead (omega arith)
