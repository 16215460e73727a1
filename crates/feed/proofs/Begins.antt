-- Lists that begin others, and what the shorter of two lacks. Assumes nothing.
use mathlib.Core.Path.{◌≡◌, refl, sym, ap, ◌∙◌}
use mathlib.Core.Logic.{◌⊎◌, inl, inr}
use mathlib.Core.Bool.{Bool, true, false, ◌&&◌, ◌||◌, cond}
use mathlib.Core.List.{List, [], ◌∷◌, ◌++◌, append-nil}
use Prim.Native.Nat.{ℕ, zero, suc, ◌≤◌, ◌<◌}
use native.Mathlib.Omega.{arith}
use native.Mathlib.Nat.{not-suc-le-zero, le_of_suc-le-suc}
use denote.Ref.{Bor}
use lib.Dec.{T, eqb, ltb, eqb→eq}
use lib.ListN.{length, take, drop, drop_of_length-le}
use lib.Seq.{take_all}
use borrow.Author.Tests.{eq-eqb, eqb-true, eqb-false, ltb-true, ltb-false}
use Rattle.std.specs.List.{starts_with}
use Rattle.rules.proofs.Logic.{decide, no_true, T_true, true-T, and_left, and_right, or_cases}
use Rattle.rules.proofs.Refusals.{passed}
use Rattle.feed.specs.Compare.{begins, longer_of, missing_refusal, missing_part, missing_place, behind}
use Rattle.feed.specs.Runs.{FirstPart}

both_false : (b : Bool) → b && false ≡ false
both_false true = refl
both_false false = refl

-- ---- as bytes are compared

pub begins-longer : (s t : List ℕ) → length t < length s → begins s t ≡ false
unfolding begins
begins-longer [] t h = absurd (not-suc-le-zero h)
begins-longer (x ∷ s) [] h = refl
begins-longer (x ∷ s) (y ∷ t) h = rw (begins-longer s t (le_of_suc-le-suc h)) (both_false (eqb x y))

-- .. as `starts_with` does it
pub begins_starts : (s t : List ℕ) → starts_with eqb t s ≡ begins s t
unfolding begins
begins_starts [] t = refl
begins_starts (x ∷ s) [] = refl
begins_starts (x ∷ s) (y ∷ t) = ap (λ (b : Bool). eqb x y && b) (begins_starts s t)

-- ---- what it says

-- a list that begins another is no longer
pub begins-fits : (s t : List ℕ) → begins s t ≡ true → length s ≤ length t
begins-fits s t e = go (ltb (length t) (length s)) refl
  where
    go : (b : Bool) → ltb (length t) (length s) ≡ b → length s ≤ length t
    go true q = absurd (no_true (sym (begins-longer s t (ltb-true (length t) (length s) q)) ∙ e))
    go false q = ltb-false (length t) (length s) q

-- the first part of a list begins it
pub part-begins : (s t : List ℕ) → FirstPart s t → begins s t ≡ true
unfolding begins
part-begins [] t e = refl
part-begins (x ∷ s) [] e = let z : ◌≡◌ {A = ℕ} 0 1 = cc in absurd (omega arith)
part-begins (x ∷ s) (y ∷ t) e =
    let h : x ≡ y = cc in
    let r : s ≡ take (length s) t = cc in
    rw (eq-eqb x y h) (part-begins s t r)

-- ---- what the shorter of two lists lacks

-- a list that begins another, with what is behind it there, is the other
begins-joined : (s t : List ℕ) → begins s t ≡ true → s ++ drop (length s) t ≡ t
unfolding begins
begins-joined [] t e = refl
begins-joined (x ∷ s) [] e = absurd (no_true e)
begins-joined (x ∷ s) (y ∷ t) e =
    let b = true-T e in
    let same = eqb→eq x y (and_left (eqb x y) (begins s t) b) in
    let rest = begins-joined s t (T_true (and_right (eqb x y) (begins s t) b)) in
    λ i. same i ∷ rest i

-- two lists that begin each other are equal
begins-both : (s t : List ℕ) → begins s t ≡ true → length s ≡ length t → s ≡ t
begins-both s t e n =
    let none : drop (length s) t ≡ [] = drop_of_length-le t {i = length s} (omega arith) in
    sym (append-nil s) ∙ ap (λ (r : List ℕ). s ++ r) (sym none) ∙ begins-joined s t e

-- which is longer, said of the lengths
longer-says : (P : ℕ → Type 0) (a b : List ℕ) → (length a ≡ length b → P 0) → (length b < length a → P 1) → (length a < length b → P 2)
    → P (longer_of a b)
unfolding longer_of
longer-says P a b same first second = go (decide (eqb (length a) (length b))) (decide (ltb (length b) (length a)))
  where
    go : (eqb (length a) (length b) ≡ true) ⊎ (eqb (length a) (length b) ≡ false)
        → (ltb (length b) (length a) ≡ true) ⊎ (ltb (length b) (length a) ≡ false)
        → P (cond (eqb (length a) (length b)) 0 (cond (ltb (length b) (length a)) 1 2))
    go (inl e) h = rw e (same (eqb-true (length a) (length b) e))
    go (inr e) (inl h) = rw (e, h) (first (ltb-true (length b) (length a) h))
    go (inr e) (inr h) =
        rw (e, h) (second (omega (arith, eqb-false (length a) (length b) e, ltb-false (length b) (length a) h)))

-- The number that says which of two lent lists is longer says where the part is, and what is in it: the longer list from the shorter one's
-- length on; with the shorter before it, it is the longer.
abbrev pub PartTold : Bor (List ℕ) → Bor (List ℕ) → ℕ → Type 0
PartTold a b zero = (a.now ≡ b.now) × (missing_part a.now b.now ≡ []) × (missing_place a b ≡ behind a (length a.now))
PartTold a b (suc zero) = (b.now ++ missing_part a.now b.now ≡ a.now) × (missing_part a.now b.now ≡ drop (length b.now) a.now)
    × (missing_place a b ≡ behind a (length b.now))
PartTold a b (suc (suc n)) = (a.now ++ missing_part a.now b.now ≡ b.now) × (missing_part a.now b.now ≡ drop (length a.now) b.now)
    × (missing_place a b ≡ behind b (length a.now))

module _ (a b : Bor (List ℕ)) (one : missing_refusal a.now b.now ≡ 0) where
  begun-by : (begins a.now b.now ≡ true) ⊎ (begins b.now a.now ≡ true)
  unfolding missing_refusal
  begun-by = go (or_cases (begins a.now b.now) (begins b.now a.now) (passed (begins a.now b.now || begins b.now a.now) 18 one))
    where
      go : T (begins a.now b.now) ⊎ T (begins b.now a.now) → (begins a.now b.now ≡ true) ⊎ (begins b.now a.now ≡ true)
      go (inl t) = inl (T_true t)
      go (inr t) = inr (T_true t)

  second-begins : length b.now ≤ length a.now → begins b.now a.now ≡ true
  second-begins h = go begun-by
    where
      go : (begins a.now b.now ≡ true) ⊎ (begins b.now a.now ≡ true) → begins b.now a.now ≡ true
      go (inl e) =
          let same = begins-both a.now b.now e (omega (arith, begins-fits a.now b.now e)) in
          part-begins b.now a.now (sym same ∙ sym (take_all (length b.now) a.now (omega (arith, ap length same))))
      go (inr e) = e

  pub part-told : PartTold a b (longer_of a.now b.now)
  unfolding missing_part missing_place
  part-told = longer-says (PartTold a b) a.now b.now same first second
    where
      same : length a.now ≡ length b.now → PartTold a b 0
      same n =
          let e = second-begins (omega arith) in
          let q = begins-both b.now a.now e (sym n) in
          (sym q, rw e (drop_of_length-le a.now {i = length b.now} (omega arith)), rw e (ap (behind a) (sym n)))

      first : length b.now < length a.now → PartTold a b 1
      first n =
          let e = second-begins (omega arith) in
          (rw e (begins-joined b.now a.now e), rw e, rw e)

      second : length a.now < length b.now → PartTold a b 2
      second n = go begun-by (begins-longer b.now a.now n)
        where
          go : (begins a.now b.now ≡ true) ⊎ (begins b.now a.now ≡ true) → begins b.now a.now ≡ false → PartTold a b 2
          go (inl e) d = (rw (d, e) (begins-joined a.now b.now e), rw (d, e), rw (d, e))
          go (inr e) d = absurd (no_true (sym d ∙ e))
