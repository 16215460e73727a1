-- The points that pass a test, listed: the first two are two points that pass. Assumes nothing.
use mathlib.Core.Path.{◌≡◌, refl, sym, ap, subst, ◌∙◌}
use mathlib.Core.Logic.{◌⊎◌, inl, inr}
use mathlib.Core.Bool.{Bool, true, false}
use mathlib.Core.List.{List, [], ◌∷◌, ◌++◌}
use Prim.Native.Nat.{ℕ, zero, suc, ◌<◌}
use native.Mathlib.Nat.{not-suc-le-zero, le_of_suc-le-suc, eq-or-lt_of_le}
use native.Mathlib.Omega.{arith}
use lib.Dec.{T}
use Rattle.rules.specs.Tools.{gather, only}
use Rattle.rules.specs.declared.Player.{Player}
use Rattle.rules.proofs.Logic.{T_true, true-T, no_true}
use Rattle.hint.specs.Hint.{is_four_eye, eyes_from}
use Rattle.hint.specs.Seen.{is_several}

-- one point that passes; or two that differ, and what follows them
abbrev pub Picked : (ℕ → Bool) → ℕ → List ℕ → Type 0
Picked g n [] = Unit {0}
Picked g n (a ∷ []) = (a < n) × T (g a)
Picked g n (a ∷ b ∷ more) = (a < n) × (b < n) × T (g a) × T (g b) × (a ≡ b → ⊥)

one_more : (g : ℕ → Bool) (n : ℕ) (b : Bool) → g n ≡ b → (l : List ℕ) → Picked g n l → Picked g (suc n) (l ++ only b (n ∷ []))
one_more g n true e [] h = (omega arith, true-T e)
one_more g n false e [] h = tt
one_more g n true e (a ∷ []) (l, t) = (omega arith, omega arith, t, true-T e, λ q. omega arith)
one_more g n false e (a ∷ []) (l, t) = (omega arith, t)
one_more g n true e (a ∷ b ∷ more) h = let l = h.0 in let m = h.1 in (omega arith, omega arith, h.2, h.3, h.4)
one_more g n false e (a ∷ b ∷ more) h = let l = h.0 in let m = h.1 in (omega arith, omega arith, h.2, h.3, h.4)

pub picked : (g : ℕ → Bool) (n : ℕ) → Picked g n (gather n (λ e. only (g e) (e ∷ [])))
unfolding gather
picked g zero = tt
picked g (suc n) = one_more g n (g n) refl (gather n (λ e. only (g e) (e ∷ []))) (picked g n)

-- a is on the list
abbrev pub Member : ℕ → List ℕ → Type 0
Member a [] = ⊥
Member a (x ∷ l) = (a ≡ x) ⊎ Member a l

front : (a : ℕ) (l m : List ℕ) → Member a l → Member a (l ++ m)
front a [] m h = absurd h
front a (x ∷ l) m (inl e) = inl e
front a (x ∷ l) m (inr h) = inr (front a l m h)

back : (a : ℕ) (l m : List ℕ) → Member a m → Member a (l ++ m)
back a [] m h = h
back a (x ∷ l) m h = inr (back a l m h)

-- each point that passes is on it
member : (g : ℕ → Bool) (n a : ℕ) → a < n → T (g a) → Member a (gather n (λ e. only (g e) (e ∷ [])))
unfolding gather
member g zero a h t = absurd (not-suc-le-zero h)
member g (suc n) a h t =
    elim (eq-or-lt_of_le (le_of_suc-le-suc h)) [
      | inl e ↦ back a (gather n (λ e. only (g e) (e ∷ []))) (only (g n) (n ∷ [])) (here (g n) e (T_true (subst (λ (x : ℕ). T (g x)) e t)))
      | inr l ↦ front a (gather n (λ e. only (g e) (e ∷ []))) (only (g n) (n ∷ [])) (member g n a l t)
    ]
  where
    here : (b : Bool) → a ≡ n → b ≡ true → Member a (only b (n ∷ []))
    here true e q = inl e
    here false e q = absurd (no_true q)

module _ (g : ℕ → Bool) (n : ℕ) where
  abbrev pub picks : List ℕ
  picks = gather n (λ e. only (g e) (e ∷ []))

  -- one point passes, and no other
  pub one-picked : (a : ℕ) → a < n → T (g a) → ((e : ℕ) → e < n → T (g e) → e ≡ a) → picks ≡ a ∷ []
  one-picked a h t alone = go picks (picked g n) (member g n a h t)
    where
      go : (l : List ℕ) → Picked g n l → Member a l → l ≡ a ∷ []
      go [] q m = absurd m
      go (x ∷ []) q (inl e) = ap (λ (y : ℕ). y ∷ []) (sym e)
      go (x ∷ []) q (inr m) = absurd m
      go (x ∷ y ∷ l) q m = absurd (q.4 (alone x q.0 q.2 ∙ sym (alone y q.1 q.3)))

  -- two pass
  pub two-picked : (a b : ℕ) → a < n → b < n → T (g a) → T (g b) → (a ≡ b → ⊥) → is_several picks ≡ true
  unfolding is_several
  two-picked a b ha hb ta tb differ = go picks (member g n a ha ta) (member g n b hb tb)
    where
      go : (l : List ℕ) → Member a l → Member b l → is_several l ≡ true
      go [] m k = absurd m
      go (x ∷ []) (inl e) (inl f) = absurd (differ (e ∙ sym f))
      go (x ∷ []) (inl e) (inr k) = absurd k
      go (x ∷ []) (inr m) k = absurd m
      go (x ∷ y ∷ l) m k = refl

pub eyes-picked : (r : Player) (cells : List ℕ) (p : ℕ) → Picked (is_four_eye r cells p) 225 (eyes_from r cells p)
unfolding eyes_from
eyes-picked r cells p = picked (is_four_eye r cells p) 225
