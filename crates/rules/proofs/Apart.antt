-- `apart` in document 01's words: "on one line a set not contained in {j, j+1}". Assumes nothing.
use mathlib.Core.Path.{◌≡◌}
use mathlib.Core.Logic.{◌⊎◌, inl, inr, ⊎_elim}
use mathlib.Core.Bool.{Bool, true, false, not, ◌||◌}
use Prim.Native.Nat.{ℕ, zero, suc, ◌+◌, ◌≤◌, ◌<◌}
use native.Mathlib.Omega.{arith}
use native.Mathlib.Decide.{dec_le, ℕ_discrete}
use lib.Dec.{T, eqb, eqb→eq}
use borrow.Author.Tests.{eq-eqb}
use Rattle.rules.specs.Tools.{any_below, all_below}
use Rattle.rules.specs.Forbidden.{apart}
use Rattle.rules.proofs.Logic.{true-T, decide, or_left, or_right, or_cases, not-intro, not-elim, not-not, false-not}
use Rattle.rules.proofs.Logic.{implies, implied, implies-intro, both_ways, any-elim, any-intro, all-elim, all-intro}
use Rattle.rules.proofs.More.{TwoApart, apart-elim, apart-intro}

-- the set is contained in {j, j+1}
abbrev near : (ℕ → Bool) → ℕ → ℕ → Bool
near s j k = implies (s k) (eqb k j || eqb k (j + 1))

unfoldable pub within : (ℕ → Bool) → ℕ → Bool
within s j = all_below 16 (near s j)

-- the first start of a set that has one
First : (ℕ → Bool) → ℕ → Type 0
First s n = (j : ℕ) × (j < n) × T (s j) × ((i : ℕ) → i < j → T (s i) → ⊥)

first : (n : ℕ) (s : ℕ → Bool) → T (any_below n s) → First s n
unfolding any_below First
first zero s t = absurd t
first (suc n) s t = at (decide (any_below n s)) (first n s)
  where
    at : (any_below n s ≡ true) ⊎ (any_below n s ≡ false) → (T (any_below n s) → First s n) → First s (suc n)
    at (inl e) ih = let r = ih (true-T e) in (r.0, omega (arith, r.1), r.2, r.3)
    at (inr e) ih =
        elim (or_cases (s n) (any_below n s) t) [
          | inl u ↦ (n, omega arith, u, λ i h w. not-elim (any_below n s) (false-not e) (any-intro n s i h w))
          | inr u ↦ absurd (not-elim (any_below n s) (false-not e) u)
        ]

module _ (s : ℕ → Bool) where
  -- a member of {j, j+1}
  member : (j k : ℕ) → T (near s j k) → T (s k) → (k ≡ j) ⊎ (k ≡ j + 1)
  member j k i u =
      elim (or_cases (eqb k j) (eqb k (j + 1)) (implied (s k) (eqb k j || eqb k (j + 1)) i u)) [
        | inl p ↦ inl (eqb→eq k j p)
        | inr p ↦ inr (eqb→eq k (j + 1) p)
      ]

  -- two starts two apart are in no {j, j+1}
  not_within : TwoApart s → (j : ℕ) → T (within s j) → ⊥
  unfolding within
  not_within w j t =
      let far = w.far in
      let lt = w.k_lt in
      let x = member j w.j (all-elim 16 (near s j) t w.j (omega arith)) w.here in
      let y = member j w.k (all-elim 16 (near s j) t w.k w.k_lt) w.there in
      ⊎_elim (λ p. ⊎_elim (λ q. omega arith) (λ q. omega arith) y) (λ p. ⊎_elim (λ q. omega arith) (λ q. omega arith) y) x

  -- where no two are, the first start j has them all in {j, j+1}
  from_first : T (not (apart 16 s)) → First s 16 → T (any_below 16 (within s))
  unfolding within First
  from_first n f =
      let j = f.0 in
      any-intro 16 (within s) j f.1 (all-intro 16 (near s j)
      (λ k hk. implies-intro (s k) (eqb k j || eqb k (j + 1)) (λ u. at k hk u (dec_le j k) (dec_le (j + 2) k))))
    where
      at : (k : ℕ) → k < 16 → T (s k) → Dec (f.0 ≤ k) → Dec (f.0 + 2 ≤ k) → T (eqb k f.0 || eqb k (f.0 + 1))
      at k hk u (no l) m = absurd (f.3 k (omega arith) u)
      at k hk u (yes l) (yes m) =
          absurd (not-elim (apart 16 s) n (apart-intro 16 s (record { j = f.0; k = k; far = m; k_lt = hk; here = f.2; there = u })))
      at k hk u (yes l) (no m) = one (ℕ_discrete k f.0)
        where
          one : Dec (k ≡ f.0) → T (eqb k f.0 || eqb k (f.0 + 1))
          one (yes e) = or_left (eqb k f.0) (eqb k (f.0 + 1)) (true-T (eq-eqb k f.0 e))
          one (no e) = or_right (eqb k f.0) (eqb k (f.0 + 1)) (true-T (eq-eqb k (f.0 + 1) (omega arith)))

  none_within : any_below 16 s ≡ false → T (any_below 16 (within s))
  unfolding within
  none_within e =
      any-intro 16 (within s) 0 (omega arith)
      (all-intro 16 (near s 0) (λ k hk. implies-intro (s k) (eqb k 0 || eqb k 1)
      (λ u. absurd (not-elim (any_below 16 s) (false-not e) (any-intro 16 s k hk u)))))

  -- THE LAW: the starts are apart where no {j, j+1} contains them
  pub apart-says : apart 16 s ≡ not (any_below 16 (within s))
  apart-says =
      both_ways (apart 16 s) (not (any_below 16 (within s)))
      (λ t. not-intro (any_below 16 (within s)) (λ u. let a = any-elim 16 (within s) u in not_within (apart-elim 16 s t) a.0 a.2))
      (λ t. not-not (apart 16 s) (λ n. not-elim (any_below 16 (within s)) t (contained n (decide (any_below 16 s)))))
    where
      contained : T (not (apart 16 s)) → (any_below 16 s ≡ true) ⊎ (any_below 16 s ≡ false) → T (any_below 16 (within s))
      contained n (inl e) = from_first n (first 16 s (true-T e))
      contained n (inr e) = none_within e
