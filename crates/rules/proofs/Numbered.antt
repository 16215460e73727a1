-- Starts by their numbers: the first one from a number on; some start; and more than one, which is two that are two or more numbers apart,
-- since starts of two lines are never nearer: none is at a line's last place. Assumes nothing.
use mathlib.Core.Path.{◌≡◌, refl, sym, ap, ap₂, subst, ◌∙◌}
use mathlib.Core.Bool.{Bool, true, false, cond}
use mathlib.Core.Logic.{◌⊎◌, inl, inr}
use Prim.Native.Nat.{ℕ, zero, suc, ◌+◌, ◌-◌, ◌*◌, ◌/◌, ◌%◌, ◌≤◌, ◌<◌}
use native.Mathlib.Nat.{lt_of_not-le, le_of_suc-le-suc}
use native.Mathlib.Omega.{arith}
use lib.Dec.{T, eqb, leb, ltb}
use borrow.Author.Tests.{eqb-true, eqb-false, leb-true, leb-false, ltb-true, ltb-false}
use Rattle.rules.specs.Tools.{any_below}
use Rattle.rules.specs.Grid.{Starts, numbered, first_of, next_from}
use Rattle.rules.specs.Forbidden.{some_row, apart, more_than_one}
use Rattle.rules.proofs.Logic.{T_true, true-T, no_true, both_ways, any-elim, any-intro}
use Rattle.rules.proofs.More.{TwoLines, TwoApart, some_row-elim, some_row-intro, apart-elim, apart-intro}
use Rattle.rules.proofs.More.{more-elim, more-lines, more-apart}

-- the line and the cell of a number
pub in-line : (d j : ℕ) → j < 16 → (16 * d + j) / 16 ≡ d
in-line d j h = omega arith

pub in_cell : (d j : ℕ) → j < 16 → (16 * d + j) % 16 ≡ j
in_cell d j h = omega arith

-- ---- the first number that passes

module _ (s : ℕ → Bool) where
  first-le : (n j : ℕ) → n ≤ 64 - j → first_of s n j ≤ 64
  unfolding first_of
  first-le zero j h = omega arith
  first-le (suc n) j h = go (s j) (first-le n (suc j) (omega arith))
    where
      go : (b : Bool) → first_of s n (suc j) ≤ 64 → cond b j (first_of s n (suc j)) ≤ 64
      go true l = omega arith
      go false l = l

  first-ge : (n j : ℕ) → n ≤ 64 - j → j ≤ 64 → j ≤ first_of s n j
  unfolding first_of
  first-ge zero j h g = g
  first-ge (suc n) j h g = go (s j) (first-ge n (suc j) (omega arith) (omega arith))
    where
      go : (b : Bool) → suc j ≤ first_of s n (suc j) → j ≤ cond b j (first_of s n (suc j))
      go true l = omega arith
      go false l = omega arith

  pub first_on : (n j : ℕ) → first_of s n j < 64 → T (s (first_of s n j))
  unfolding first_of
  first_on zero j h = absurd (omega arith)
  first_on (suc n) j h = go (s j) refl (first_on n (suc j)) h
    where
      go : (b : Bool) → s j ≡ b → (first_of s n (suc j) < 64 → T (s (first_of s n (suc j)))) → cond b j (first_of s n (suc j)) < 64
          → T (s (cond b j (first_of s n (suc j))))
      go true e ih l = true-T e
      go false e ih l = ih l

  first-none : (n j i : ℕ) → n ≡ 64 - j → j ≤ i → i < first_of s n j → s i ≡ false
  unfolding first_of
  first-none zero j i e l h = absurd (omega arith)
  first-none (suc n) j i e l h = go (s j) refl (first-none n (suc j) i (omega arith)) h (eqb i j) refl
    where
      go : (b : Bool) → s j ≡ b → (suc j ≤ i → i < first_of s n (suc j) → s i ≡ false) → i < cond b j (first_of s n (suc j))
          → (q : Bool) → eqb i j ≡ q → s i ≡ false
      go true f ih k q g = absurd (omega arith)
      go false f ih k true g = ap s (eqb-true i j g) ∙ f
      go false f ih k false g = let o : (i ≡ j → ⊥) = eqb-false i j g in ih (omega arith) k

module _ (s s' : ℕ → Bool) (h : (k : ℕ) → k < 64 → s k ≡ s' k) where
  first-same : (m j : ℕ) → m ≤ 64 - j → first_of s m j ≡ first_of s' m j
  unfolding first_of
  first-same zero j l = refl
  first-same (suc m) j l = ap₂ (λ (b : Bool) (k : ℕ). cond b j k) (h j (omega arith)) (first-same m (suc j) (omega arith))

pub next_le : (s : ℕ → Bool) (n : ℕ) → next_from s n ≤ 64
unfolding next_from
next_le s n = first-le s (64 - n) n (omega arith)

pub next-ge : (s : ℕ → Bool) (n : ℕ) → n ≤ 64 → n ≤ next_from s n
unfolding next_from
next-ge s n h = first-ge s (64 - n) n (omega arith) h

pub next-on : (s : ℕ → Bool) (n : ℕ) → next_from s n < 64 → T (s (next_from s n))
unfolding next_from
next-on s n h = first_on s (64 - n) n h

pub next-none : (s : ℕ → Bool) (n j : ℕ) → n ≤ j → j < next_from s n → s j ≡ false
unfolding next_from
next-none s n j l h = first-none s (64 - n) n j refl l h

-- no number that passes lies before it
pub next-first : (s : ℕ → Bool) (n j : ℕ) → n ≤ j → T (s j) → next_from s n ≤ j
next-first s n j l t = le_of_suc-le-suc (lt_of_not-le (λ h. no_true (sym (next-none s n j l h) ∙ T_true t)))

pub next-is : (s : ℕ → Bool) (n r : ℕ) → n ≤ r → r < 64 → T (s r) → ((j : ℕ) → n ≤ j → j < r → s j ≡ false) → next_from s n ≡ r
next-is s n r l h t none =
    let a : next_from s n ≤ r = next-first s n r l t in
    let b : n ≤ next_from s n = next-ge s n (omega arith) in
    let c : r ≤ next_from s n = le_of_suc-le-suc (lt_of_not-le (λ g.
    no_true (sym (none (next_from s n) b g) ∙ T_true (next-on s n (omega arith))))) in
    omega arith

-- there is none past the last number, and none where none passes
pub next_past : (s : ℕ → Bool) (n : ℕ) → 64 ≤ n → next_from s n ≡ 64
unfolding next_from first_of
next_past s n h = ap (λ (k : ℕ). first_of s k n) (sub n h)
  where
    sub : (n : ℕ) → 64 ≤ n → 64 - n ≡ 0
    sub n h = omega arith

pub next-end : (s : ℕ → Bool) (n : ℕ) → ((j : ℕ) → n ≤ j → j < 64 → s j ≡ false) → next_from s n ≡ 64
next-end s n none = go (leb 64 n) refl
  where
    go : (b : Bool) → leb 64 n ≡ b → next_from s n ≡ 64
    go true e = next_past s n (leb-true 64 n e)
    go false e =
        let g : n ≤ next_from s n = next-ge s n (omega (arith, leb-false 64 n e)) in
        let l : next_from s n ≤ 64 = next_le s n in
        let k : 64 ≤ next_from s n = le_of_suc-le-suc (lt_of_not-le (λ h.
        no_true (sym (none (next_from s n) g h) ∙ T_true (next-on s n h)))) in
        omega arith

-- two tests that agree on the numbers below 64
pub next-same : (s s' : ℕ → Bool) (n : ℕ) → ((k : ℕ) → k < 64 → s k ≡ s' k) → next_from s n ≡ next_from s' n
unfolding next_from
next-same s s' n h = first-same s s' h (64 - n) n (omega arith)

-- ---- one start, and more than one

module _ (s : Starts) where
  number-intro : (d j : ℕ) → j < 16 → T (s d j) → T (numbered s (16 * d + j))
  unfolding numbered
  number-intro d j hj t = rw (in-line d j hj, in_cell d j hj) t

  pub some-numbered : any_below 64 (numbered s) ≡ some_row s
  unfolding numbered
  some-numbered =
      both_ways (any_below 64 (numbered s)) (some_row s)
      (λ t. let (k, hk, u) = any-elim 64 (numbered s) t in some_row-intro s (k / 16) (k % 16) (omega arith) (omega arith) u)
      (λ t.
      let (d, j, hd, hj, u) = some_row-elim s t in
      any-intro 64 (numbered s) (16 * d + j) (omega arith) (number-intro d j hj u))

  module _ (low : (d j : ℕ) → d < 4 → T (s d j) → j < 15) where
    more-to : T (apart 64 (numbered s)) → T (more_than_one s)
    unfolding numbered
    more-to t =
        let w = apart-elim 64 (numbered s) t in
        let far = w.far in
        let lt = w.k_lt in
        go w.j w.k far lt w.here w.there (eqb (w.j / 16) (w.k / 16)) refl
      where
        go : (j k : ℕ) → j + 2 ≤ k → k < 64 → T (s (j / 16) (j % 16)) → T (s (k / 16) (k % 16)) → (q : Bool) → eqb (j / 16) (k / 16) ≡ q
            → T (more_than_one s)
        go j k far lt here there true e =
            let q : j / 16 ≡ k / 16 = eqb-true (j / 16) (k / 16) e in
            more-apart s (k / 16) (omega arith)
            (record {
              j = j % 16;
              k = k % 16;
              far = omega arith;
              k_lt = omega arith;
              here = subst (λ (d : ℕ). T (s d (j % 16))) q here;
              there = there;
            })
        go j k far lt here there false e =
            more-lines s
            (record {
              d1 = j / 16;
              d2 = k / 16;
              j1 = j % 16;
              j2 = k % 16;
              d1-lt = omega arith;
              d2-lt = omega arith;
              j1-lt = omega arith;
              j2-lt = omega arith;
              differ = eqb-false (j / 16) (k / 16) e;
              here = here;
              there = there;
            })

    two-numbers : (d e i j : ℕ) → d < e → e < 4 → T (s d i) → T (s e j) → T (apart 64 (numbered s))
    two-numbers d e i j l he here there =
        let a = low d i (omega arith) here in
        let b = low e j he there in
        apart-intro 64 (numbered s) (record {
          j = 16 * d + i;
          k = 16 * e + j;
          far = omega arith;
          k_lt = omega arith;
          here = number-intro d i (omega arith) here;
          there = number-intro e j (omega arith) there;
        })

    more-fro : T (more_than_one s) → T (apart 64 (numbered s))
    more-fro t = go (more-elim s t)
      where
        go : TwoLines s ⊎ ((d : ℕ) × (d < 4) × TwoApart (s d)) → T (apart 64 (numbered s))
        go (inl w) = order (ltb w.d1 w.d2) refl
          where
            order : (b : Bool) → ltb w.d1 w.d2 ≡ b → T (apart 64 (numbered s))
            order true e = two-numbers w.d1 w.d2 w.j1 w.j2 (ltb-true w.d1 w.d2 e) w.d2-lt w.here w.there
            order false e =
                let o : (w.d1 ≡ w.d2 → ⊥) = w.differ in
                two-numbers w.d2 w.d1 w.j2 w.j1 (omega (arith, ltb-false w.d1 w.d2 e)) w.d1-lt w.there w.here
        go (inr (d, hd, w)) =
            let f = w.far in
            let l = w.k_lt in
            apart-intro 64 (numbered s) (record {
              j = 16 * d + w.j;
              k = 16 * d + w.k;
              far = omega arith;
              k_lt = omega arith;
              here = number-intro d w.j (omega arith) w.here;
              there = number-intro d w.k l w.there;
            })

    pub more-numbered : apart 64 (numbered s) ≡ more_than_one s
    more-numbered = both_ways (apart 64 (numbered s)) (more_than_one s) more-to more-fro
