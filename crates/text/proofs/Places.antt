-- Laws of places in a text: a text trimmed, a byte in it, the parts between a byte. Assumes nothing.
use mathlib.Core.Path.{◌≡◌, refl, ap, sym, ◌∙◌}
use mathlib.Core.Bool.{Bool, true, false, not, ◌||◌, cond}
use mathlib.Core.Logic.{◌⊎◌, inl, inr}
use mathlib.Core.List.{List, [], ◌∷◌, ◌++◌}
use Prim.Native.Nat.{ℕ, zero, suc, ◌+◌, ◌≤◌, ◌<◌, ◌-◌}
use native.Mathlib.Nat.{le_of_suc-le-suc, not-suc-le-zero}
use native.Mathlib.Omega.{arith}
use lib.Dec.{eqb, leb}
use lib.ListN.{length, get_or, take, drop, length-drop, length-take}
use lib.Seq.{drop-drop, take-suc, length-take-le}
use borrow.Author.Tests.{leb-true, leb-false}
use Rattle.rules.proofs.Logic.{decide, no_true}
use Rattle.lent.specs.Slices.{first_at, find_at}
use Rattle.text.specs.Bytes.{space, trim_start, trim_end, keep_end, trim, has, before, behind, parts, onto_first}
use Rattle.text.specs.Bytes.{leading}
use Rattle.std.specs.Option.{option_map_or, unwrap_or}
use Rattle.std.proofs.Common.{Option, Some, None, Bor}

-- ---- what is left of a text, in parts
abbrev pub left_in : ℕ → Option (Bor (List ℕ)) → List (List ℕ)
left_in d rest = option_map_or (λ t. parts d t.now) rest []

-- what stands behind a byte, or nothing
pub behind_or : (rest : Option (Bor (List ℕ))) (none : Bor (List ℕ)) → none.now ≡ [] → (unwrap_or rest none).now ≡ option_map_or (λ t. t.now) rest []
behind_or None none e = e
behind_or (Some t) none e = refl

-- ---- trimming
pub trim_start_lem : (s : List ℕ) → trim_start s ≡ drop (leading s) s
unfolding trim_start first_at
trim_start_lem [] = refl
trim_start_lem (b ∷ s) = go (space b) (trim_start_lem s)
  where
    go : (t : Bool) → trim_start s ≡ drop (leading s) s → cond t (trim_start s) (b ∷ s) ≡ drop (cond (not t) 0 (suc (leading s))) (b ∷ s)
    go true h = h
    go false h = refl

-- a text with one byte more at its end
pub end_more : (s : List ℕ) (b : ℕ) → trim_end (s ++ (b ∷ [])) ≡ cond (space b) (trim_end s) (s ++ (b ∷ []))
unfolding trim_end keep_end
end_more [] b = refl
end_more (a ∷ s) b = rw (end_more s b) (go (space b) s)
  where
    go : (t : Bool) (s : List ℕ) → keep_end a (cond t (trim_end s) (s ++ (b ∷ []))) ≡ cond t (keep_end a (trim_end s)) (a ∷ s ++ (b ∷ []))
    go true s = refl
    go false [] = refl
    go false (e ∷ s) = refl

pub end_take : (s : List ℕ) → trim_end s ≡ take (length (trim_end s)) s
unfolding trim_end keep_end
end_take [] = refl
end_take (b ∷ s) = go (trim_end s) (end_take s)
  where
    go : (t : List ℕ) → t ≡ take (length t) s → keep_end b t ≡ take (length (keep_end b t)) (b ∷ s)
    go [] h = two (space b)
      where
        two : (t : Bool) → cond t [] (b ∷ []) ≡ take (length (cond t [] (b ∷ []))) (b ∷ s)
        two true = refl
        two false = refl
    go (e ∷ t) h = ap (λ (l : List ℕ). b ∷ l) h

pub end_none : length (trim_end []) ≡ 0
unfolding trim_end
end_none = refl

pub trim-le : (s : List ℕ) → length (trim s) ≤ length s
unfolding trim
trim-le s =
    let a = ap length (trim_start_lem s) in
    let b = ap length (end_take (trim_start s)) in
    omega (arith, length-drop (leading s) s, length-take (length (trim_end (trim_start s))) (trim_start s))

-- the loop from the end: a byte of white space is passed
pub end_step : (s : List ℕ) (i : ℕ) → 0 < i → i ≤ length s → space (get_or s (i - 1) 0) ≡ true → trim_end (take i s) ≡ trim_end
    (take (i - 1) s)
end_step s zero h k e = absurd (not-suc-le-zero h)
end_step s (suc i) h k e =
    let z : suc i - 1 ≡ i = omega arith in
    rw (take-suc s i 0 k, end_more) (rw z (rw (rw z at e) refl))

pub end-hit : (s : List ℕ) (i : ℕ) → 0 < i → i ≤ length s → space (get_or s (i - 1) 0) ≡ false → length (trim_end (take i s)) ≡ i
end-hit s zero h k e = absurd (not-suc-le-zero h)
end-hit s (suc i) h k e =
    let z : suc i - 1 ≡ i = omega arith in
    rw (take-suc s i 0 k, end_more) (rw (rw z at e) (rw (← take-suc s i 0 k) (length-take-le (suc i) s k)))

-- ---- a byte, and the parts between
pub has-yes : (d : ℕ) (s : List ℕ) → find_at d s < length s → has d s ≡ true
unfolding first_at has
has-yes d [] h = absurd (not-suc-le-zero h)
has-yes d (b ∷ s) h = go (eqb b d) (has-yes d s) h
  where
    go : (t : Bool) → (find_at d s < length s → has d s ≡ true) → cond t 0 (suc (find_at d s)) < suc (length s) → (t || has d s) ≡ true
    go true r h = refl
    go false r h = r (le_of_suc-le-suc h)

pub has_no : (d : ℕ) (s : List ℕ) → length s ≤ find_at d s → has d s ≡ false
unfolding first_at has
has_no d [] h = refl
has_no d (b ∷ s) h = go (eqb b d) (has_no d s) h
  where
    go : (t : Bool) → (length s ≤ find_at d s → has d s ≡ false) → suc (length s) ≤ cond t 0 (suc (find_at d s)) → (t || has d s) ≡ false
    go true r h = absurd (not-suc-le-zero h)
    go false r h = r (le_of_suc-le-suc h)

-- the test of the code: no d is found before the end
pub has-not : (d n : ℕ) (s : List ℕ) → n ≡ find_at d s → leb (length s) n ≡ not (has d s)
has-not d n s e = go (decide (leb (length s) n))
  where
    go : (leb (length s) n ≡ true) ⊎ (leb (length s) n ≡ false) → leb (length s) n ≡ not (has d s)
    go (inl t) = let h = leb-true (length s) n t in rw (t, has_no d s (omega arith))
    go (inr t) = let h = leb-false (length s) n t in rw (t, has-yes d s (omega arith))

pub before-take : (d : ℕ) (s : List ℕ) → before d s ≡ take (find_at d s) s
unfolding first_at before
before-take d [] = refl
before-take d (b ∷ s) = go (eqb b d) (before-take d s)
  where
    go : (t : Bool) → before d s ≡ take (find_at d s) s → cond t [] (b ∷ before d s) ≡ take (cond t 0 (suc (find_at d s))) (b ∷ s)
    go true r = refl
    go false r = ap (λ (l : List ℕ). b ∷ l) r

pub behind-drop : (d : ℕ) (s : List ℕ) → behind d s ≡ drop (suc (find_at d s)) s
unfolding first_at behind
behind-drop d [] = refl
behind-drop d (b ∷ s) = go (eqb b d) (behind-drop d s)
  where
    go : (t : Bool) → behind d s ≡ drop (suc (find_at d s)) s → cond t s (behind d s) ≡ drop (suc (cond t 0 (suc (find_at d s)))) (b ∷ s)
    go true r = refl
    go false r = r

pub behind-le : (d : ℕ) (s : List ℕ) → length (behind d s) ≤ length s
behind-le d s = rw (behind-drop d s) (omega (arith, length-drop (suc (find_at d s)) s))

-- a text without the byte is one part
pub parts_whole : (d : ℕ) (l : List ℕ) → has d l ≡ false → parts d l ≡ l ∷ []
unfolding has parts onto_first
parts_whole d [] h = refl
parts_whole d (b ∷ l) h = go (eqb b d) (parts_whole d l) h
  where
    go : (t : Bool) → (has d l ≡ false → parts d l ≡ l ∷ []) → (t || has d l) ≡ false
        → cond t ([] ∷ parts d l) (onto_first b (parts d l)) ≡ (b ∷ l) ∷ []
    go true r e = absurd (no_true (sym e))
    go false r e = rw (r e)

-- there is one part more than there are bytes at most
pub parts-length : (d : ℕ) (l : List ℕ) → length (parts d l) ≤ length l + 1
unfolding parts onto_first
parts-length d [] = omega arith
parts-length d (b ∷ l) = go (eqb b d) (parts d l) (parts-length d l)
  where
    go : (t : Bool) (ps : List (List ℕ)) → length ps ≤ length l + 1 → length (cond t ([] ∷ ps) (onto_first b ps)) ≤ suc (length l) + 1
    go true ps h = omega arith
    go false [] h = omega arith
    go false (p ∷ ps) h = omega arith

-- the last part, and a part before another
pub parts_last : (d : ℕ) (s : List ℕ) → length s ≤ find_at d s → parts d s ≡ take (find_at d s) s ∷ []
unfolding first_at parts onto_first
parts_last d [] h = refl
parts_last d (b ∷ s) h = go (eqb b d) (parts_last d s) h
  where
    go : (t : Bool) → (length s ≤ find_at d s → parts d s ≡ take (find_at d s) s ∷ []) → suc (length s) ≤ cond t 0 (suc (find_at d s))
        → cond t ([] ∷ parts d s) (onto_first b (parts d s)) ≡ take (cond t 0 (suc (find_at d s))) (b ∷ s) ∷ []
    go true r h = absurd (not-suc-le-zero h)
    go false r h = rw (r (le_of_suc-le-suc h))

pub parts_cut : (d : ℕ) (s : List ℕ) → find_at d s < length s → parts d s ≡ take (find_at d s) s ∷ parts d (drop (suc (find_at d s)) s)
unfolding first_at parts onto_first
parts_cut d [] h = absurd (not-suc-le-zero h)
parts_cut d (b ∷ s) h = go (eqb b d) (parts_cut d s) h
  where
    go : (t : Bool) → (find_at d s < length s → parts d s ≡ take (find_at d s) s ∷ parts d (drop (suc (find_at d s)) s))
        → cond t 0 (suc (find_at d s)) < suc (length s)
        → cond t ([] ∷ parts d s) (onto_first b (parts d s))
        ≡ take (cond t 0 (suc (find_at d s))) (b ∷ s) ∷ parts d (drop (suc (cond t 0 (suc (find_at d s)))) (b ∷ s))
    go true r h = refl
    go false r h = rw (r (le_of_suc-le-suc h))

-- ---- what stands before and behind the first d, as a place of it tells
part-before : (d n : ℕ) (s part : List ℕ) → n ≡ find_at d s → part ≡ take n s → part ≡ before d s
part-before d n s part e p = p ∙ ap (λ (k : ℕ). take k s) e ∙ sym (before-take d s)

part-behind : (d n : ℕ) (s from rest : List ℕ) → n ≡ find_at d s → from ≡ drop n s → rest ≡ drop 1 from → rest ≡ behind d s
part-behind d n s from rest e p q =
    let z : find_at d s + 1 ≡ suc (find_at d s) = omega arith in
    q ∙ ap (drop 1) (p ∙ ap (λ (k : ℕ). drop k s) e) ∙ drop-drop 1 (find_at d s) s ∙ ap (λ (k : ℕ). drop k s) z ∙ sym (behind-drop d s)

-- what stands before the first d, and before the next one; and what stands behind the first
pub two-lists : (d n m : ℕ) (s part from rest other : List ℕ) → n ≡ find_at d s → part ≡ take n s → from ≡ drop n s → rest ≡ drop 1 from
    → m ≡ find_at d rest → other ≡ take m rest → (part ≡ before d s) × (other ≡ before d (behind d s)) × (rest ≡ behind d s)
two-lists d n m s part from rest other en ep ef er em eo =
    let e = part-behind d n s from rest en ef er in
    (part-before d n s part en ep, part-before d m rest other em eo ∙ ap (before d) e, e)
