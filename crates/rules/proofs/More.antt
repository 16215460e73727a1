-- "More than one", by witnesses. Assumes nothing.
use mathlib.Core.Path.{◌≡◌, sym, subst}
use mathlib.Core.Logic.{◌⊎◌, inl, inr}
use mathlib.Core.Bool.{Bool, not, ◌&&◌}
use Prim.Native.Nat.{ℕ, ◌+◌, ◌≤◌, ◌<◌}
use native.Mathlib.Omega.{arith}
use lib.Dec.{T, leb, eqb, eqb→eq, eqb_refl, leb→le, le→leb}
use Rattle.rules.specs.Tools.{any_below}
use Rattle.rules.specs.Grid.{Starts}
use Rattle.rules.specs.Forbidden.{some_start, some_row, on_two_lines, apart, more_than_one}
use Rattle.rules.proofs.Logic.{and_left, and_right, and_intro, or_left, or_right, or_cases, not-intro, not-elim, any-elim, any-intro}
use Rattle.rules.proofs.Logic.{along, both_ways}

-- what the tests say
pub some_row-elim : (s : Starts) → T (some_row s) → (d j : ℕ) × (d < 4) × (j < 16) × T (s d j)
unfolding some_row
some_row-elim s t =
    let a = any-elim 4 (λ d. some_start (s d)) t in
    let b = any-elim 16 (s a.0) a.2 in
    (a.0, b.0, a.1, b.1, b.2)

pub some_row-intro : (s : Starts) (d j : ℕ) → d < 4 → j < 16 → T (s d j) → T (some_row s)
unfolding some_row
some_row-intro s d j hd hj t = any-intro 4 (λ d. some_start (s d)) d hd (any-intro 16 (s d) j hj t)

-- two starts, on two lines or on one line two or more apart
pub record TwoLines (s : Starts) : Type 0 where
  pub d1 : ℕ
  pub d2 : ℕ
  pub j1 : ℕ
  pub j2 : ℕ
  pub d1-lt : d1 < 4
  pub d2-lt : d2 < 4
  pub j1-lt : j1 < 16
  pub j2-lt : j2 < 16
  pub differ : d1 ≡ d2 → ⊥
  pub here : T (s d1 j1)
  pub there : T (s d2 j2)

pub record TwoWithin (w : ℕ) (s : ℕ → Bool) : Type 0 where
  pub j : ℕ
  pub k : ℕ
  pub far : j + 2 ≤ k
  pub k_lt : k < w
  pub here : T (s j)
  pub there : T (s k)

abbrev pub TwoApart : (ℕ → Bool) → Type 0
TwoApart s = TwoWithin 16 s

pub two-elim : (s : Starts) → T (on_two_lines s) → TwoLines s
unfolding on_two_lines
two-elim s t =
    let a = any-elim 4 (λ d. some_start (s d) && any_below 4 (λ e. not (eqb d e) && some_start (s e))) t in
    let d = a.0 in
    let l = and_left (some_start (s d)) (any_below 4 (λ e. not (eqb d e) && some_start (s e))) a.2 in
    let b = any-elim 4 (λ e. not (eqb d e) && some_start (s e))
    (and_right (some_start (s d)) (any_below 4 (λ e. not (eqb d e) && some_start (s e))) a.2) in
    let e = b.0 in
    let x = any-elim 16 (s d) l in
    let y = any-elim 16 (s e) (and_right (not (eqb d e)) (some_start (s e)) b.2) in
    let nd = and_left (not (eqb d e)) (some_start (s e)) b.2 in
    record {
      d1 = d;
      d2 = e;
      j1 = x.0;
      j2 = y.0;
      d1-lt = a.1;
      d2-lt = b.1;
      j1-lt = x.1;
      j2-lt = y.1;
      differ = λ q. not-elim (eqb d e) nd (subst (λ (z : ℕ). T (eqb d z)) q (eqb_refl d));
      here = x.2;
      there = y.2;
    }

pub two-intro : (s : Starts) → TwoLines s → T (on_two_lines s)
unfolding on_two_lines
two-intro s w =
    any-intro 4 (λ d. some_start (s d) && any_below 4 (λ e. not (eqb d e) && some_start (s e))) w.d1 w.d1-lt
    (and_intro (some_start (s w.d1)) (any_below 4 (λ e. not (eqb w.d1 e) && some_start (s e)))
    (any-intro 16 (s w.d1) w.j1 w.j1-lt w.here)
    (any-intro 4 (λ e. not (eqb w.d1 e) && some_start (s e)) w.d2 w.d2-lt
    (and_intro (not (eqb w.d1 w.d2)) (some_start (s w.d2))
    (not-intro (eqb w.d1 w.d2) (λ q. w.differ (eqb→eq w.d1 w.d2 q)))
    (any-intro 16 (s w.d2) w.j2 w.j2-lt w.there))))

pub apart-elim : (w : ℕ) (s : ℕ → Bool) → T (apart w s) → TwoWithin w s
unfolding apart
apart-elim w s t =
    let a = any-elim w (λ j. s j && any_below w (λ k. leb (j + 2) k && s k)) t in
    let j = a.0 in
    let b = any-elim w (λ k. leb (j + 2) k && s k) (and_right (s j) (any_below w (λ k. leb (j + 2) k && s k)) a.2) in
    let k = b.0 in
    record {
      j = j;
      k = k;
      far = leb→le (j + 2) k (and_left (leb (j + 2) k) (s k) b.2);
      k_lt = b.1;
      here = and_left (s j) (any_below w (λ k. leb (j + 2) k && s k)) a.2;
      there = and_right (leb (j + 2) k) (s k) b.2;
    }

pub apart-intro : (w : ℕ) (s : ℕ → Bool) → TwoWithin w s → T (apart w s)
unfolding apart
apart-intro w s p =
    let hf = p.far in
    let hk = p.k_lt in
    any-intro w (λ j. s j && any_below w (λ k. leb (j + 2) k && s k)) p.j (omega arith)
    (and_intro (s p.j) (any_below w (λ k. leb (p.j + 2) k && s k)) p.here
    (any-intro w (λ k. leb (p.j + 2) k && s k) p.k hk
    (and_intro (leb (p.j + 2) p.k) (s p.k) (le→leb (p.j + 2) p.k hf) p.there)))

pub more-elim : (s : Starts) → T (more_than_one s) → TwoLines s ⊎ ((d : ℕ) × (d < 4) × TwoApart (s d))
unfolding more_than_one
more-elim s t =
    elim (or_cases (on_two_lines s) (any_below 4 (λ d. apart 16 (s d))) t) [
      | inl u ↦ inl (two-elim s u)
      | inr u ↦ let a = any-elim 4 (λ d. apart 16 (s d)) u in inr (a.0, a.1, apart-elim 16 (s a.0) a.2)
    ]

pub more-lines : (s : Starts) → TwoLines s → T (more_than_one s)
unfolding more_than_one
more-lines s w = or_left (on_two_lines s) (any_below 4 (λ d. apart 16 (s d))) (two-intro s w)

pub more-apart : (s : Starts) (d : ℕ) → d < 4 → TwoApart (s d) → T (more_than_one s)
unfolding more_than_one
more-apart s d hd w = or_right (on_two_lines s) (any_below 4 (λ d. apart 16 (s d)))
    (any-intro 4 (λ d. apart 16 (s d)) d hd (apart-intro 16 (s d) w))

-- starts carried from s to s', direction by direction, some of them the other way round
pub record Carried (s s' : Starts) : Type 0 where
  pub to : ℕ → ℕ
  pub to-lt : (d : ℕ) → d < 4 → to d < 4
  pub to_one : (d e : ℕ) → d < 4 → e < 4 → to d ≡ to e → d ≡ e
  pub row : (d j : ℕ) → d < 4 → j < 16 → T (s d j) → (k : ℕ) × (k < 16) × T (s' (to d) k)
  pub rows : (d : ℕ) → d < 4 → TwoApart (s d) → TwoApart (s' (to d))

module _ (s s' : Starts) (c : Carried s s') where
  pub some_row-carried : T (some_row s) → T (some_row s')
  some_row-carried t =
      let a = some_row-elim s t in
      let b = c.row a.0 a.1 a.2 a.3 a.4 in
      some_row-intro s' (c.to a.0) b.0 (c.to-lt a.0 a.2) b.1 b.2

  carry : TwoLines s ⊎ ((d : ℕ) × (d < 4) × TwoApart (s d)) → T (more_than_one s')
  carry (inl w) =
      let a = c.row w.d1 w.j1 w.d1-lt w.j1-lt w.here in
      let b = c.row w.d2 w.j2 w.d2-lt w.j2-lt w.there in
      more-lines s'
      (record {
        d1 = c.to w.d1;
        d2 = c.to w.d2;
        j1 = a.0;
        j2 = b.0;
        d1-lt = c.to-lt w.d1 w.d1-lt;
        d2-lt = c.to-lt w.d2 w.d2-lt;
        j1-lt = a.1;
        j2-lt = b.1;
        differ = λ q. w.differ (c.to_one w.d1 w.d2 w.d1-lt w.d2-lt q);
        here = a.2;
        there = b.2;
      })
  carry (inr w) = more-apart s' (c.to w.0) (c.to-lt w.0 w.1) (c.rows w.0 w.1 w.2)

  pub more-carried : T (more_than_one s) → T (more_than_one s')
  more-carried t = carry (more-elim s t)

-- starts that are all among others
module _ (s s' : Starts) (among : (d j : ℕ) → d < 4 → j < 16 → T (s d j) → T (s' d j)) where
  alike : Carried s s'
  alike =
      record {
        to = λ d. d;
        to-lt = λ d hd. hd;
        to_one = λ d e hd he q. q;
        row = λ d j hd hj u. (j, hj, among d j hd hj u);
        rows = λ d hd w.
            let far = w.far in
            let lt = w.k_lt in
            record {
              j = w.j;
              k = w.k;
              far = w.far;
              k_lt = w.k_lt;
              here = among d w.j hd (omega arith) w.here;
              there = among d w.k hd w.k_lt w.there;
            };
      }

  some_row-mono : T (some_row s) → T (some_row s')
  some_row-mono = some_row-carried s s' alike

  pub more-mono : T (more_than_one s) → T (more_than_one s')
  more-mono = more-carried s s' alike

-- the tests look at directions below 4 and at starts below 16
module _ (s s' : Starts) (same : (d j : ℕ) → d < 4 → j < 16 → s d j ≡ s' d j) where
  to : (d j : ℕ) → d < 4 → j < 16 → T (s d j) → T (s' d j)
  to d j hd hj = along (same d j hd hj)

  fro : (d j : ℕ) → d < 4 → j < 16 → T (s' d j) → T (s d j)
  fro d j hd hj = along (sym (same d j hd hj))

  pub some_row-same : some_row s ≡ some_row s'
  some_row-same = both_ways (some_row s) (some_row s') (some_row-mono s s' to) (some_row-mono s' s fro)

  pub more_same : more_than_one s ≡ more_than_one s'
  more_same = both_ways (more_than_one s) (more_than_one s') (more-mono s s' to) (more-mono s' s fro)
