-- Rows total start by start: what a loop over a line's starts has seen, and that the count says "some" and "more than one". Assumes
-- nothing.
use mathlib.Core.Path.{◌≡◌, subst}
use mathlib.Core.Bool.{Bool, true, false, not, ◌&&◌, ◌||◌, cond, beq}
use Rattle.std.specs.Prelude.{Option, Some, None, is_some}
use Prim.Native.Nat.{ℕ, zero, suc, ◌+◌, ◌-◌, ◌≤◌, ◌<◌}
use native.Mathlib.Omega.{arith}
use native.Mathlib.Decide.{dec_le}
use lib.Dec.{T, leb, eqb}
use Rattle.rules.specs.Tools.{any_below}
use Rattle.rules.specs.Grid.{Starts}
use Rattle.rules.specs.Forbidden.{some_start, some_row, on_two_lines, apart, more_than_one}
use Rattle.rules.proofs.Logic.{T_true, true-T, not-false, not-intro, any-elim, any-intro}
use Rattle.rules.proofs.Logic.{and_intro, implies, implied, implies-intro}
use Rattle.rules.proofs.Tables.{every4, at4, beq-eq}
use Rattle.rules.proofs.More.{TwoApart, apart-elim, apart-intro}
use Rattle.second.specs.Count.{rows_along, row_count}

-- no start is below j
abbrev pub NoneBelow : (ℕ → Bool) → ℕ → Type 0
NoneBelow s j = (k : ℕ) → k < j → T (s k) → ⊥

-- i is the first of the starts below j, and none of them is two or more after it
pub record FirstBelow (s : ℕ → Bool) (j i : ℕ) : Type 0 where
  pub before : i < j
  pub here : T (s i)
  pub none : NoneBelow s i
  pub near : (k : ℕ) → k < j → i + 2 ≤ k → T (s k) → ⊥

-- the starts below j are looked at: the first, if there is one, and none two or more after it
abbrev pub Seen : (ℕ → Bool) → ℕ → Option ℕ → Type 0
Seen s j None = NoneBelow s j
Seen s j (Some i) = FirstBelow s j i

-- what holds of none below j, and not at j, holds of none below j + 1
last : (j : ℕ) (P : ℕ → Type 0) → ((k : ℕ) → k < j → P k → ⊥) → (P j → ⊥) → (k : ℕ) → k < j + 1 → P k → ⊥
last j P h g k l p = at (dec_le j k)
  where
    at : Dec (j ≤ k) → ⊥
    at (yes m) = g (subst P (let q : k ≡ j = omega arith in q) p)
    at (no m) = h k (omega arith) p

module _ (s : ℕ → Bool) where
  pub seen_none : Seen s 0 None
  seen_none k h t = omega arith

  module _ (j : ℕ) where
    -- no start at j
    pub seen_passed : (first : Option ℕ) → Seen s j first → s j ≡ false → Seen s (j + 1) first
    seen_passed None seen e = last j (λ k. T (s k)) seen (λ t. subst T e t)
    seen_passed (Some i) seen e =
        record {
          before = let b = seen.before in omega arith;
          here = seen.here;
          none = seen.none;
          near = λ k h l t. last j (λ x. (i + 2 ≤ x) × T (s x)) (λ x m p. seen.near x m p.0 p.1) (λ p. subst T e p.1) k h (l, t);
        }

    -- a start at j: the first, or next to it, or two or more after it
    pub seen_first : Seen s j None → s j ≡ true → Seen s (j + 1) (Some j)
    seen_first seen e =
        record { before = omega arith; here = true-T e; none = seen; near = λ k h l t. omega arith }

    pub seen_near : (i : ℕ) → Seen s j (Some i) → j - i < 2 → Seen s (j + 1) (Some i)
    seen_near i seen e =
        record {
          before = let b = seen.before in omega arith;
          here = seen.here;
          none = seen.none;
          near = λ k h l t. last j (λ x. (i + 2 ≤ x) × T (s x)) (λ x m p. seen.near x m p.0 p.1) (λ p. let q = p.0 in omega arith) k h (l, t);
        }

    pub seen_far : (i : ℕ) → j < 16 → Seen s j (Some i) → s j ≡ true → 2 ≤ j - i → 2 ≡ rows_along s
    unfolding rows_along
    seen_far i hj seen e far =
        let w : TwoApart s = record { j = i; k = j; far = omega arith; k_lt = hj; here = seen.here; there = true-T e } in
        rw (T_true {b = apart 16 s} (apart-intro 16 s w))

  -- the number is told by the first
  pub seen_end : (first : Option ℕ) → Seen s 16 first → cond (is_some first) 1 0 ≡ rows_along s
  unfolding rows_along
  seen_end None seen = rw (all_near, no_start)
    where
      all_near : apart 16 s ≡ false
      all_near = not-false (not-intro (apart 16 s) (λ t. let w = apart-elim 16 s t in seen w.k w.k_lt w.there))

      no_start : some_start s ≡ false
      no_start = not-false (not-intro (any_below 16 s) (λ t. let a = any-elim 16 s t in seen a.0 a.1 a.2))
  seen_end (Some i) seen = rw (all_near, T_true {b = some_start s} (any-intro 16 s i seen.before seen.here))
    where
      at : (k m : ℕ) → k + 2 ≤ m → m < 16 → T (s k) → T (s m) → Dec (i ≤ k) → ⊥
      at k m far lt u v (yes l) = seen.near m lt (omega arith) v
      at k m far lt u v (no l) = seen.none k (omega arith) u

      all_near : apart 16 s ≡ false
      all_near = not-false (not-intro (apart 16 s) (λ t. let w = apart-elim 16 s t in at w.j w.k w.far w.k_lt w.here w.there (dec_le i w.j)))

-- ---- the count on four lines

pub along-le : (s : ℕ → Bool) → rows_along s ≤ 2
unfolding rows_along
along-le s = go (apart 16 s) (some_start s)
  where
    go : (a b : Bool) → cond a 2 (cond b 1 0) ≤ 2
    go true b = omega arith
    go false true = omega arith
    go false false = omega arith

apart_some : (s : ℕ → Bool) → T (apart 16 s) → T (some_start s)
apart_some s t = let w = apart-elim 16 s t in any-intro 16 s w.k w.k_lt w.there

-- a test of eight Bools, by one computed test over all their values
abbrev every8 : (Bool → Bool → Bool → Bool → Bool → Bool → Bool → Bool → Bool) → Bool
every8 f = every4 (λ a b c d. every4 (λ e g h i. f a b c d e g h i))

at8 : (f : Bool → Bool → Bool → Bool → Bool → Bool → Bool → Bool → Bool) → T (every8 f) → (a b c d e g h i : Bool) → T (f a b c d e g h i)
at8 f t a b c d e g h i =
    at4 (λ e g h i. f a b c d e g h i) (at4 (λ a b c d. every4 (λ e g h i. f a b c d e g h i)) t a b c d) e g h i

-- on line d the starts are apart, or there is some start
abbrev four : Bool → Bool → Bool → Bool → ℕ → Bool
four a b c d zero = a
four a b c d (suc zero) = b
four a b c d (suc (suc zero)) = c
four a b c d (suc (suc (suc n))) = d

abbrev total : Bool → Bool → Bool → Bool → Bool → Bool → Bool → Bool → ℕ
total a b c d e g h i = cond a 2 (cond e 1 0) + cond b 2 (cond g 1 0) + cond c 2 (cond h 1 0) + cond d 2 (cond i 1 0)

-- one or more is some
pub count-some : (s : Starts) → leb 1 (row_count s) ≡ some_row s
unfolding row_count rows_along some_row any_below
count-some s =
    let A : ℕ → Bool = λ d. apart 16 (s d) in
    let S : ℕ → Bool = λ d. some_start (s d) in
    beq-eq (leb 1 (row_count s)) (some_row s)
    (implied (implies (A 0) (S 0) && implies (A 1) (S 1) && implies (A 2) (S 2) && implies (A 3) (S 3))
    (beq (leb 1 (row_count s)) (some_row s))
    (at8 (λ a b c d e g h i. implies (implies a e && implies b g && implies c h && implies d i)
    (beq (leb 1 (total a b c d e g h i)) (any_below 4 (four e g h i)))) tt (A 0) (A 1) (A 2) (A 3) (S 0) (S 1) (S 2) (S 3))
    (and_intro (implies (A 0) (S 0) && implies (A 1) (S 1) && implies (A 2) (S 2)) (implies (A 3) (S 3))
    (and_intro (implies (A 0) (S 0) && implies (A 1) (S 1)) (implies (A 2) (S 2))
    (and_intro (implies (A 0) (S 0)) (implies (A 1) (S 1)) (both 0) (both 1)) (both 2)) (both 3)))
  where
    both : (d : ℕ) → T (implies (apart 16 (s d)) (some_start (s d)))
    both d = implies-intro (apart 16 (s d)) (some_start (s d)) (apart_some (s d))

-- two or more is more than one
pub count-more : (s : Starts) → leb 2 (row_count s) ≡ more_than_one s
unfolding row_count rows_along more_than_one on_two_lines any_below
count-more s =
    beq-eq (leb 2 (row_count s)) (more_than_one s)
    (at8 (λ a b c d e g h i. beq (leb 2 (total a b c d e g h i))
    (any_below 4 (λ x. four e g h i x && any_below 4 (λ y. not (eqb x y) && four e g h i y)) || any_below 4 (four a b c d))) tt
    (apart 16 (s 0)) (apart 16 (s 1)) (apart 16 (s 2)) (apart 16 (s 3)) (some_start (s 0)) (some_start (s 1)) (some_start (s 2))
    (some_start (s 3)))
