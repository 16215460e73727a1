-- Passed tests: what they say, and how they are made. `T b` is a passed test. Assumes nothing.
use mathlib.Core.Path.{◌≡◌, refl, sym, subst}
use mathlib.Core.Logic.{◌⊎◌, inl, inr}
use mathlib.Core.Bool.{Bool, true, false, not, ◌&&◌, ◌||◌}
use Prim.Native.Nat.{ℕ, zero, suc, ◌+◌, ◌≤◌, ◌<◌}
use native.Mathlib.Numerals.{add-one}
use native.Mathlib.Nat.{not-suc-le-zero, le_of_suc-le-suc, le_refl, eq-or-lt_of_le, le_step, lt_of_not-le, lt_of_lt_of_le, lt_irrefl}
use lib.Dec.{T, leb, ltb, leb→le, le→leb, ltb→lt, lt→ltb}
use Rattle.rules.specs.Tools.{any_below, all_below}

-- ---- a passed test and the equation with true, which is what a branch of code knows

pub T_true : {b : Bool} → T b → b ≡ true
T_true {b = true} t = refl
T_true {b = false} t = absurd t

pub true-T : {b : Bool} → b ≡ true → T b
true-T e = subst T (sym e) tt

pub decide : (b : Bool) → (b ≡ true) ⊎ (b ≡ false)
decide true = inl refl
decide false = inr refl

pub no_true : false ≡ true → ⊥
no_true e = subst T (sym e) tt

-- ---- and, or, not, if

pub and_left : (a b : Bool) → T (a && b) → T a
and_left true b t = tt
and_left false b t = t

pub and_right : (a b : Bool) → T (a && b) → T b
and_right true b t = t
and_right false b t = absurd t

pub and_intro : (a b : Bool) → T a → T b → T (a && b)
and_intro true b s t = t
and_intro false b s t = absurd s

pub or_left : (a b : Bool) → T a → T (a || b)
or_left true b s = tt
or_left false b s = absurd s

pub or_right : (a b : Bool) → T b → T (a || b)
or_right true b s = tt
or_right false b s = s

pub or_cases : (a b : Bool) → T (a || b) → T a ⊎ T b
or_cases true b t = inl t
or_cases false b t = inr t

pub not-intro : (a : Bool) → (T a → ⊥) → T (not a)
not-intro true f = f tt
not-intro false f = tt

pub not-elim : (a : Bool) → T (not a) → T a → ⊥
not-elim true p q = p
not-elim false p q = q

pub not-false : {a : Bool} → T (not a) → a ≡ false
not-false {a = true} t = absurd t
not-false {a = false} t = refl

pub false-not : {a : Bool} → a ≡ false → T (not a)
false-not e = subst (λ (b : Bool). T (not b)) (sym e) tt

pub not-not : (a : Bool) → (T (not a) → ⊥) → T a
not-not true f = tt
not-not false f = f tt

abbrev pub implies : Bool → Bool → Bool
implies a b = not a || b

pub implied : (a b : Bool) → T (implies a b) → T a → T b
implied true b t u = t
implied false b t u = absurd u

pub implies-intro : (a b : Bool) → (T a → T b) → T (implies a b)
implies-intro true b f = f tt
implies-intro false b f = tt

pub and-flip : (a b : Bool) → (a && b) ≡ (b && a)
and-flip true true = refl
and-flip true false = refl
and-flip false true = refl
and-flip false false = refl

-- what follows a passed test may be replaced by what it equals there
pub and_same : (a x y : Bool) → (T a → x ≡ y) → (a && x) ≡ (a && y)
and_same true x y e = e tt
and_same false x y e = refl

-- two tests are one where each passes with the other
pub both_ways : (a b : Bool) → (T a → T b) → (T b → T a) → a ≡ b
both_ways true true f g = refl
both_ways true false f g = absurd (f tt)
both_ways false true f g = absurd (g tt)
both_ways false false f g = refl

pub along : {a b : Bool} → a ≡ b → T a → T b
along e t = subst T e t

pub same-leb : (a b c d : ℕ) → (a ≤ b → c ≤ d) → (c ≤ d → a ≤ b) → leb a b ≡ leb c d
same-leb a b c d f g = both_ways (leb a b) (leb c d) (λ t. le→leb c d (f (leb→le a b t))) (λ t. le→leb a b (g (leb→le c d t)))

pub not-leb : (i j : ℕ) → not (leb i j) ≡ ltb j i
not-leb i j =
    both_ways (not (leb i j)) (ltb j i) (λ t. lt→ltb j i (lt_of_not-le (λ h. not-elim (leb i j) t (le→leb i j h))))
    (λ t. not-intro (leb i j) (λ u. lt_irrefl j (lt_of_lt_of_le (ltb→lt j i t) (leb→le i j u))))

-- ---- tests over a range

pub any-elim : (n : ℕ) (f : ℕ → Bool) → T (any_below n f) → (j : ℕ) × (j < n) × T (f j)
unfolding any_below
any-elim zero f t = absurd t
any-elim (suc n) f t =
    elim (or_cases (f n) (any_below n f) t) [
      | inl s ↦ (n, le_refl (suc n), s)
      | inr s ↦ let r = any-elim n f s in (r.0, le_step r.1, r.2)
    ]

pub any-intro : (n : ℕ) (f : ℕ → Bool) (j : ℕ) → j < n → T (f j) → T (any_below n f)
unfolding any_below
any-intro zero f j h t = absurd (not-suc-le-zero h)
any-intro (suc n) f j h t =
    elim (eq-or-lt_of_le (le_of_suc-le-suc h)) [
      | inl e ↦ or_left (f n) (any_below n f) (subst (λ (m : ℕ). T (f m)) e t)
      | inr l ↦ or_right (f n) (any_below n f) (any-intro n f j l t)
    ]

pub all-elim : (n : ℕ) (f : ℕ → Bool) → T (all_below n f) → (j : ℕ) → j < n → T (f j)
unfolding all_below
all-elim zero f t j h = absurd (not-suc-le-zero h)
all-elim (suc n) f t j h =
    elim (eq-or-lt_of_le (le_of_suc-le-suc h)) [
      | inl e ↦ subst (λ (m : ℕ). T (f m)) (sym e) (and_left (f n) (all_below n f) t)
      | inr l ↦ all-elim n f (and_right (f n) (all_below n f) t) j l
    ]

pub all-intro : (n : ℕ) (f : ℕ → Bool) → ((j : ℕ) → j < n → T (f j)) → T (all_below n f)
unfolding all_below
all-intro zero f h = tt
all-intro (suc n) f h = and_intro (f n) (all_below n f) (h n (le_refl (suc n))) (all-intro n f (λ j l. h j (le_step l)))

-- a test computed over all pairs, and over all triples
pub all2 : (m n : ℕ) (f : ℕ → ℕ → Bool) → T (all_below m (λ a. all_below n (f a))) → (a b : ℕ) → a < m → b < n → T (f a b)
all2 m n f t a b ha hb = all-elim n (f a) (all-elim m (λ a. all_below n (f a)) t a ha) b hb

pub all3 : (l m n : ℕ) (f : ℕ → ℕ → ℕ → Bool) → T (all_below l (λ a. all_below m (λ b. all_below n (f a b))))
    → (a b c : ℕ) → a < l → b < m → c < n → T (f a b c)
all3 l m n f t a b c ha hb hc = all2 m n (f a) (all-elim l (λ a. all_below m (λ b. all_below n (f a b))) t a ha) b c hb hc

pub not-any : (n : ℕ) (f : ℕ → Bool) → not (any_below n f) ≡ all_below n (λ i. not (f i))
not-any n f =
    both_ways (not (any_below n f)) (all_below n (λ i. not (f i)))
    (λ t. all-intro n (λ i. not (f i)) (λ i h. not-intro (f i) (λ u. not-elim (any_below n f) t (any-intro n f i h u))))
    (λ t. not-intro (any_below n f) (λ u. let (i, h, v) = any-elim n f u in not-elim (f i) (all-elim n (λ i. not (f i)) t i h) v))

pub any-cong : (n : ℕ) (f g : ℕ → Bool) → ((j : ℕ) → j < n → f j ≡ g j) → any_below n f ≡ any_below n g
any-cong n f g h =
    both_ways (any_below n f) (any_below n g)
    (λ t. let (j, l, u) = any-elim n f t in any-intro n g j l (subst T (h j l) u))
    (λ t. let (j, l, u) = any-elim n g t in any-intro n f j l (subst T (sym (h j l)) u))

pub all-cong : (n : ℕ) (f g : ℕ → Bool) → ((i : ℕ) → i < n → f i ≡ g i) → all_below n f ≡ all_below n g
all-cong n f g e =
    both_ways (all_below n f) (all_below n g) (λ t. all-intro n g (λ i l. along (e i l) (all-elim n f t i l)))
    (λ t. all-intro n f (λ i l. along (sym (e i l)) (all-elim n g t i l)))

-- as a loop tests a range: one number more; a number that fails
pub all-step : (n : ℕ) (f : ℕ → Bool) → (f n && all_below n f) ≡ all_below (n + 1) f
unfolding all_below
all-step n f = rw add-one

pub all_more : (n : ℕ) (f : ℕ → Bool) → T (all_below n f) → T (f n) → T (all_below (n + 1) f)
all_more n f t u = along (all-step n f) (and_intro (f n) (all_below n f) u t)

pub all-fails : (n : ℕ) (f : ℕ → Bool) (i : ℕ) → i < n → f i ≡ false → all_below n f ≡ false
all-fails n f i h e = not-false (not-intro (all_below n f) (λ t. subst T e (all-elim n f t i h)))
