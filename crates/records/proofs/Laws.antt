-- The laws of a record's fields: what digits spell is bounded, where lines end, and tables and tests made place by place. Assumes nothing.
use mathlib.Core.Path.{◌≡◌, refl, ap, ap₂, sym, ◌∙◌}
use mathlib.Core.Logic.{◌⊎◌, inl, inr}
use mathlib.Core.Bool.{Bool, true, false, ◌&&◌, cond}
use mathlib.Core.List.{List, [], ◌∷◌}
use Prim.Native.Nat.{ℕ, zero, suc, ◌+◌, ◌-◌, ◌*◌, ◌^◌, ◌≤◌, ◌<◌}
use native.Mathlib.Nat.{pow-suc, pow-le-pow_right, not-suc-le-zero, le_of_suc-le-suc}
use native.Mathlib.Decide.{ℕ_discrete}
use native.Mathlib.Numerals.{add-one}
use native.Mathlib.Omega.{arith}
use lib.Dec.{T, leb, ltb, eqb}
use lib.ListN.{length, get_or, set, drop, length-set, length-drop, drop_of_length-le, get_or-eq_default}
use Rattle.std.proofs.lemmas.List.{get_or-drop}
use lib.Seq.{drop-cons, get_or-set_same, get_or-set_other}
use Rattle.rules.specs.Tools.{tab, all_below}
use Rattle.rules.proofs.Lists.{is-tab}
use Rattle.rules.proofs.Logic.{decide, both_ways, along, and_left, and_right, and_intro, all-elim, all-intro}
use borrow.Author.Tests.{leb-true, ltb-true, ltb-false, eq-eqb, ne_eqb}
use Rattle.records.specs.Records.{byte_at, digit_of, hex_spelled, hex_of, length_to, place_from, line_end, line_at}
use Rattle.records.specs.Bytes.{wanted_at, holds_bytes}

-- ---- digits

pub digit-below : (b : ℕ) → digit_of b < 16
unfolding digit_of
digit-below b = figure (leb 48 b) (leb b 57) refl
  where
    letter : (p q : Bool) → leb b 102 ≡ q → cond (p && q) (b - 87) 0 < 16
    letter true true e = omega (arith, leb-true b 102 e)
    letter true false e = omega arith
    letter false q e = omega arith

    figure : (p q : Bool) → leb b 57 ≡ q → cond (p && q) (b - 48) (cond (leb 97 b && leb b 102) (b - 87) 0) < 16
    figure true true e = omega (arith, leb-true b 57 e)
    figure true false e = letter (leb 97 b) (leb b 102) refl
    figure false q e = letter (leb 97 b) (leb b 102) refl

pub spelled_none : (s : List ℕ) (at : ℕ) → hex_spelled s at 0 ≡ 0
unfolding hex_spelled
spelled_none s at = refl

pub spelled-more : (s : List ℕ) (at n : ℕ) → hex_spelled s at n * 16 + digit_of (byte_at s (at + n)) ≡ hex_spelled s at (n + 1)
unfolding hex_spelled
spelled-more s at n = rw (add-one n)

pub spelled-below : (s : List ℕ) (at n : ℕ) → hex_spelled s at n < 16 ^ n
unfolding hex_spelled
spelled-below s at zero = omega arith
spelled-below s at (suc n) =
    rw (pow-suc 16 n) (omega (arith, spelled-below s at n, digit-below (byte_at s (at + n))))

-- before the fourth digit there is room for one more
pub spelled-room : (s : List ℕ) (at n : ℕ) → n < 4 → hex_spelled s at n < 4096
spelled-room s at n h =
    let p : 16 ^ n ≤ 16 ^ 3 = pow-le-pow_right {n = 16} (omega arith) {i = n} {j = 3} (omega arith) in omega (arith, spelled-below s at n)

-- two digits spell a byte
pub hex-byte : (s : List ℕ) (at : ℕ) → hex_of s at 2 < 256
unfolding hex_of
hex-byte s at = spelled-below s at 2

-- ---- places and lines

length-short : (d : ℕ) (s : List ℕ) → length_to d s ≤ length s
unfolding length_to
length-short d [] = omega arith
length-short d (b ∷ s) = pick (eqb b d) (length-short d s)
  where
    pick : (t : Bool) → length_to d s ≤ length s → cond t 0 (suc (length_to d s)) ≤ suc (length s)
    pick true h = omega arith
    pick false h = omega arith

pub place-within : (s : List ℕ) (from d : ℕ) → place_from s from d ≤ length s
unfolding place_from
place-within s from d = omega (arith, length-short d (drop from s), length-drop from s)

pub place-from : (s : List ℕ) (from d : ℕ) → from ≤ length s → from ≤ place_from s from d
unfolding place_from
place-from s from d h = omega arith

-- at the end
pub place-past : (s : List ℕ) (i d : ℕ) → length s ≤ i → place_from s i d ≡ length s
unfolding place_from
place-past s i d h = omega (arith, length-short d (drop i s), length-drop i s)

-- at a byte d
pub place-stops : (s : List ℕ) (i d : ℕ) → i < length s → get_or s i 0 ≡ d → place_from s i d ≡ i
unfolding place_from length_to
place-stops s i d h e = rw (drop-cons s i 0 h, eq-eqb (get_or s i 0) d e) (omega arith)

-- at any other byte
pub place-on : (s : List ℕ) (i d : ℕ) → i < length s → (get_or s i 0 ≡ d → ⊥) → place_from s i d ≡ place_from s (i + 1) d
unfolding place_from length_to
place-on s i d h e = rw (drop-cons s i 0 h, ne_eqb (get_or s i 0) d e, add-one i) (omega arith)

-- a line's bytes, cut at its end
pub line-cut : (s : List ℕ) (at : ℕ) → at ≤ length s → line_end s at - at ≡ length_to 10 (drop at s)
unfolding place_from
line-cut s at h = omega arith

-- .. and past the end there are none
pub line-none : (s : List ℕ) (at : ℕ) → line_end s at < at → line_at s at ≡ []
unfolding line_at place_from length_to
line-none s at h = rw (drop_of_length-le s {i = at} (omega arith))

-- the next line leaves fewer bytes
pub next-less : (s : List ℕ) (at : ℕ) → at < length s → length s - (line_end s at + 1) < length s - at
next-less s at h = omega (arith, place-from s at 10 (omega arith))

-- ---- tables

-- the entries below i are those of a table of n
pub record Filled (n : ℕ) (f : ℕ → ℕ) (i : ℕ) (l : List ℕ) : Type 0 where
  pub whole : length l ≡ n
  pub front : (k : ℕ) → k < i → get_or l k 0 ≡ f k

pub filled_none : (n : ℕ) (f : ℕ → ℕ) (l : List ℕ) → length l ≡ n → Filled n f 0 l
filled_none n f l e = record { whole = e; front = λ k h. absurd (not-suc-le-zero h) }

pub filled_more : (n : ℕ) (f : ℕ → ℕ) (i : ℕ) (l : List ℕ) → i < n → Filled n f i l → Filled n f (i + 1) (set l i (f i))
filled_more n f i l hi h = record { whole = length-set l i (f i) ∙ h.whole; front = λ k hk. entry k hk (ℕ_discrete k i) }
  where
    entry : (k : ℕ) → k < i + 1 → Dec (k ≡ i) → get_or (set l i (f i)) k 0 ≡ f k
    entry k hk (yes e) = rw e (get_or-set_same l i (f i) 0 (omega (arith, h.whole)))
    entry k hk (no ne) = get_or-set_other l i k (f i) 0 ne ∙ h.front k (other k hk ne)
      where
        other : (k : ℕ) → k < i + 1 → (k ≡ i → ⊥) → k < i
        other k hk ne = omega arith

pub filled-all : (n : ℕ) (f : ℕ → ℕ) (l : List ℕ) → Filled n f n l → l ≡ tab n f
filled-all n f l h = is-tab l n f h.whole h.front

-- below the length the default does not matter
pub get_d_any : (l : List ℕ) (i d e : ℕ) → i < length l → get_or l i d ≡ get_or l i e
get_d_any [] i d e h = absurd (not-suc-le-zero h)
get_d_any (x ∷ l) zero d e h = refl
get_d_any (x ∷ l) (suc i) d e h = get_d_any l i d e (le_of_suc-le-suc h)

-- ---- tests

pub below_none : (f : ℕ → Bool) → true ≡ all_below 0 f
unfolding all_below
below_none f = refl

pub below_more : (f : ℕ → Bool) (n : ℕ) → f n && all_below n f ≡ all_below (n + 1) f
unfolding all_below
below_more f n = rw (add-one n)

-- the front of a page as wanted, and 255 behind it: the page has the wanted bytes
pub page-parts : (page wanted : List ℕ) (n : ℕ) → n ≤ length page → (n < length page → length wanted ≤ n)
    → (all_below n (λ i. eqb (byte_at page i) (wanted_at wanted i))
    && all_below (length (drop n page)) (λ i. eqb (byte_at (drop n page) i) 255)) ≡ holds_bytes page wanted
unfolding holds_bytes wanted_at
page-parts page wanted n front all =
    let f : ℕ → Bool = λ i. eqb (byte_at page i) (get_or wanted i 255) in
    let g : ℕ → Bool = λ i. eqb (byte_at (drop n page) i) 255 in
    let m : ℕ = length (drop n page) in
    let many : m ≡ length page - n = length-drop n page in
    let same : (i : ℕ) → i < m → g i ≡ f (n + i) = λ i l.
    ap₂ eqb (get_or-drop n page i 0) (sym (get_or-eq_default wanted 255 (omega (arith, all (omega (arith, many, l)))))) in
    both_ways (all_below n f && all_below m g) (all_below (length page) f)
    (λ t.
    all-intro (length page) f (λ i l.
    go i l (and_left (all_below n f) (all_below m g) t) (and_right (all_below n f) (all_below m g) t) same many (decide (ltb i n))))
    (λ t.
    and_intro (all_below n f) (all_below m g)
    (all-intro n f (λ i l. all-elim (length page) f t i (omega (arith, l, front))))
    (all-intro m g (λ i l. along (sym (same i l)) (all-elim (length page) f t (n + i) (omega (arith, l, many))))))
  where
    go : (i : ℕ) → i < length page → T (all_below n (λ j. eqb (byte_at page j) (get_or wanted j 255)))
        → T (all_below (length (drop n page)) (λ j. eqb (byte_at (drop n page) j) 255))
        → ((j : ℕ) → j < length (drop n page) → eqb (byte_at (drop n page) j) 255 ≡ eqb (byte_at page (n + j)) (get_or wanted (n + j) 255))
        → length (drop n page) ≡ length page - n → (ltb i n ≡ true) ⊎ (ltb i n ≡ false) → T (eqb (byte_at page i) (get_or wanted i 255))
    go i l a b same many (inl t) = all-elim n (λ j. eqb (byte_at page j) (get_or wanted j 255)) a i (ltb-true i n t)
    go i l a b same many (inr t) =
        let k : n ≤ i = ltb-false i n t in
        let h : i - n < length (drop n page) = omega (arith, k, l, many) in
        let e : n + (i - n) ≡ i = omega (arith, k) in
        along (ap (λ (j : ℕ). eqb (byte_at page j) (get_or wanted j 255)) e)
        (along (same (i - n) h) (all-elim (length (drop n page)) (λ j. eqb (byte_at (drop n page) j) 255) b (i - n) h))
