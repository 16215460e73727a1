-- What is known of the Threes through a stone: by what was found of one of them, by a look at the rows through its eye, and in the end.
-- Assumes nothing.
use mathlib.Core.Path.{◌≡◌, refl, ap, ap₂, sym, subst, ◌∙◌}
use mathlib.Core.Bool.{Bool, true, false, not, ◌&&◌, ◌||◌, cond}
use mathlib.Core.Logic.{◌⊎◌, inl, inr}
use mathlib.Core.List.{List, [], ◌∷◌}
use Prim.Native.Nat.{ℕ, zero, suc, ◌+◌, ◌*◌, ◌/◌, ◌%◌, ◌≤◌, ◌<◌}
use native.Mathlib.Nat.{lt_of_not-le}
use native.Mathlib.Omega.{arith}
use lib.Dec.{T, eqb, ltb, eqb→eq, eqb_refl, lt→ltb}
use lib.ListN.{get_or}
use borrow.Author.Tests.{eqb-false}
use Rattle.rules.specs.Bit.{bit, mask_of}
use Rattle.rules.specs.Grid.{Starts, start_masks, starts_of, numbered, next_from, rows_through}
use Rattle.rules.specs.Forbidden.{some_row, more_than_one, black_rows, is_real, eye_of, real_threes, real_double, strict_of}
use Rattle.rules.specs.declared.Player.TheVariants.{Black}
use Rattle.rules.specs.declared.RowKind.TheVariants.{Three}
use Rattle.rules.specs.declared.Verdict.TheVariants.{None, DoubleFour, Overline}
use Rattle.rules.proofs.Logic.{T_true, true-T, no_true, along, both_ways, and_left, and_right, and_intro, or_cases, not-elim}
use Rattle.rules.proofs.Bits.{bit-none, bit_mask}
use Rattle.rules.proofs.Lists.{get_d-tab}
use Rattle.rules.proofs.More.{more-mono}
use Rattle.rules.proofs.Numbered.{in-line, in_cell, next-ge, next-on, next-none}
use Rattle.rules.proofs.Starts.{start-low}
use Rattle.rules.proofs.Search.{start_is}
use Rattle.grid.specs.Lines.{cells_of, Sound}
use Rattle.near.specs.Rows.{RowsAre}
use Rattle.near.specs.declared.rows.Rows.{Rows}
use Rattle.referee.specs.Referee.{strict_by, plain_by, KnownOf}
use Rattle.referee.proofs.EyeFound.{five-seen, real-seen}

-- ---- starts by their numbers, of masks that are made of a test

masked : (f : Starts) (k : ℕ) → k < 64 → numbered (starts_of (start_masks f)) k ≡ (ltb (k % 16) 15 && numbered f k)
unfolding numbered starts_of start_masks
masked f k hk =
    ap (λ (m : ℕ). ltb (k % 16) 15 && bit m (k % 16)) (get_d-tab 4 (λ d. mask_of 16 (f d)) (k / 16) (omega arith))
    ∙ ap (λ (b : Bool). ltb (k % 16) 15 && b) (bit_mask 16 (f (k / 16)) (k % 16) (omega arith))

set_at : (m : List ℕ) (i : ℕ) (on : Bool) (k : ℕ) → k < 64
    → numbered (starts_of (start_masks (λ d j. cond (eqb (16 * d + j) i) on (starts_of m d j)))) k
    ≡ (ltb (k % 16) 15 && cond (eqb k i) on (numbered (starts_of m) k))
unfolding numbered
set_at m i on k hk =
    masked (λ d j. cond (eqb (16 * d + j) i) on (starts_of m d j)) k hk
    ∙ ap (λ (x : ℕ). ltb (k % 16) 15 && cond (eqb x i) on (starts_of m (k / 16) (k % 16))) (there k)
  where
    there : (k : ℕ) → 16 * (k / 16) + k % 16 ≡ k
    there k = omega arith

-- no start is at a line's last place
start-short : (m : List ℕ) (k : ℕ) → T (numbered (starts_of m) k) → T (ltb (k % 16) 15)
unfolding numbered starts_of
start-short m k t = and_left (ltb (k % 16) 15) _ t

-- four masks without a stone name none
pub no-starts : (k : ℕ) → k < 64 → T (numbered (starts_of (0 ∷ 0 ∷ 0 ∷ 0 ∷ [])) k) → ⊥
unfolding numbered starts_of
no-starts k hk t = go (k / 16) (omega arith) (and_right (ltb (k % 16) 15) _ t)
  where
    none : T (bit 0 (k % 16)) → ⊥
    none u = subst T (bit-none (k % 16)) u

    go : (d : ℕ) → d < 4 → T (bit (get_or (0 ∷ 0 ∷ 0 ∷ 0 ∷ []) d 0) (k % 16)) → ⊥
    go zero h u = none u
    go (suc zero) h u = none u
    go (suc (suc zero)) h u = none u
    go (suc (suc (suc zero))) h u = none u
    go (suc (suc (suc (suc d)))) h u = absurd (omega arith)

-- the starts that are left out of others
module _ (left sure : List ℕ) {rest : List ℕ} (e : rest ≡ start_masks (λ d j. starts_of left d j && not (starts_of sure d j)))
    (k : ℕ) (hk : k < 64) where
  open_at : numbered (starts_of rest) k ≡ (ltb (k % 16) 15 && (numbered (starts_of left) k && not (numbered (starts_of sure) k)))
  unfolding numbered
  open_at = ap (λ (m : List ℕ). starts_of m (k / 16) (k % 16)) e ∙ masked (λ d j. starts_of left d j && not (starts_of sure d j)) k hk

  pub open-left : T (numbered (starts_of rest) k) → T (numbered (starts_of left) k)
  open-left t = and_left (numbered (starts_of left) k) _ (and_right (ltb (k % 16) 15) _ (along open_at t))

  pub not-open : (T (numbered (starts_of rest) k) → ⊥) → T (numbered (starts_of left) k) → T (numbered (starts_of sure) k)
  not-open n t = go (numbered (starts_of sure) k) refl
    where
      go : (b : Bool) → numbered (starts_of sure) k ≡ b → T b
      go true q = tt
      go false q =
          n (along (sym open_at)
          (and_intro (ltb (k % 16) 15) _ (start-short left k t) (and_intro (numbered (starts_of left) k) _ t (rw q tt))))

-- ---- one Three settled: put among the sure ones, or taken from those that are left

module _ (sure : List ℕ) (i : ℕ) {sure' : List ℕ} where
  sure-at : (found : Bool) → sure' ≡ cond found (start_masks (λ d j. cond (eqb (16 * d + j) i) found (starts_of sure d j))) sure
      → (k : ℕ) → k < 64
      → numbered (starts_of sure') k
      ≡ cond found (ltb (k % 16) 15 && cond (eqb k i) found (numbered (starts_of sure) k)) (numbered (starts_of sure) k)
  sure-at true e k hk = ap (λ (m : List ℕ). numbered (starts_of m) k) e ∙ set_at sure i true k hk
  sure-at false e k hk = ap (λ (m : List ℕ). numbered (starts_of m) k) e

  pub sure-grows : (found : Bool) → sure' ≡ cond found (start_masks (λ d j. cond (eqb (16 * d + j) i) found (starts_of sure d j))) sure
      → (k : ℕ) → k < 64 → T (numbered (starts_of sure) k) → T (numbered (starts_of sure') k)
  sure-grows true e k hk t =
      along (sym (sure-at true e k hk))
      (and_intro (ltb (k % 16) 15) (cond (eqb k i) true (numbered (starts_of sure) k)) (start-short sure k t) (go (eqb k i)))
    where
      go : (b : Bool) → T (cond b true (numbered (starts_of sure) k))
      go true = tt
      go false = t
  sure-grows false e k hk t = along (sym (sure-at false e k hk)) t

  sure-back : (found : Bool) → sure' ≡ cond found (start_masks (λ d j. cond (eqb (16 * d + j) i) found (starts_of sure d j))) sure
      → (k : ℕ) → k < 64 → T (numbered (starts_of sure') k) → ((found ≡ true) × (k ≡ i)) ⊎ T (numbered (starts_of sure) k)
  sure-back true e k hk t = go (eqb k i) refl (and_right (ltb (k % 16) 15) _ (along (sure-at true e k hk) t))
    where
      go : (b : Bool) → eqb k i ≡ b → T (cond b true (numbered (starts_of sure) k))
          → ((true ≡ true) × (k ≡ i)) ⊎ T (numbered (starts_of sure) k)
      go true q u = inl (refl, eqb→eq k i (true-T q))
      go false q u = inr u
  sure-back false e k hk t = inr (along (sure-at false e k hk) t)

module _ (left : List ℕ) (i : ℕ) {left' : List ℕ} where
  left_at : (found : Bool) → left' ≡ cond found left (start_masks (λ d j. cond (eqb (16 * d + j) i) found (starts_of left d j)))
      → (k : ℕ) → k < 64
      → numbered (starts_of left') k
      ≡ cond found (numbered (starts_of left) k) (ltb (k % 16) 15 && cond (eqb k i) found (numbered (starts_of left) k))
  left_at true e k hk = ap (λ (m : List ℕ). numbered (starts_of m) k) e
  left_at false e k hk = ap (λ (m : List ℕ). numbered (starts_of m) k) e ∙ set_at left i false k hk

  left_back : (found : Bool) → left' ≡ cond found left (start_masks (λ d j. cond (eqb (16 * d + j) i) found (starts_of left d j)))
      → (k : ℕ) → k < 64 → T (numbered (starts_of left') k) → T (numbered (starts_of left) k) × (found ≡ false → k ≡ i → ⊥)
  left_back true e k hk t = (along (left_at true e k hk) t, λ q. absurd (no_true (sym q)))
  left_back false e k hk t = go (eqb k i) refl (and_right (ltb (k % 16) 15) _ (along (left_at false e k hk) t))
    where
      go : (b : Bool) → eqb k i ≡ b → T (cond b false (numbered (starts_of left) k))
          → T (numbered (starts_of left) k) × (false ≡ false → k ≡ i → ⊥)
      go true q u = absurd u
      go false q u = (u, λ f r. subst T (sym (T_true (subst (λ (x : ℕ). T (eqb k x)) r (eqb_refl k))) ∙ q) tt)

  left-keeps : (found : Bool) → left' ≡ cond found left (start_masks (λ d j. cond (eqb (16 * d + j) i) found (starts_of left d j)))
      → (k : ℕ) → k < 64 → T (numbered (starts_of left) k) → (k ≡ i → found ≡ true) → T (numbered (starts_of left') k)
  left-keeps true e k hk t o = along (sym (left_at true e k hk)) t
  left-keeps false e k hk t o =
      along (sym (left_at false e k hk)) (and_intro (ltb (k % 16) 15) _ (start-short left k t) (go (eqb k i) refl))
    where
      go : (b : Bool) → eqb k i ≡ b → T (cond b false (numbered (starts_of left) k))
      go true q = absurd (subst T (sym (o (eqb→eq k i (true-T q)))) tt)
      go false q = t

-- ---- the Threes through p

module _ (cells : List ℕ) (p : ℕ) where
  real-three : (k : ℕ) → T (numbered (real_threes strict_of cells p) k) → T (numbered (rows_through Black Three cells p) k)
  unfolding numbered real_threes
  real-three k t = and_left (rows_through Black Three cells p (k / 16) (k % 16)) _ t

  -- the Three at a start of the masks
  pub three-at : (threes : List ℕ) → threes ≡ start_masks (rows_through Black Three cells p) → (k : ℕ) → k < 64
      → T (numbered (starts_of threes) k) → T (rows_through Black Three cells p (k / 16) (k % 16))
  unfolding numbered
  three-at threes e k hk t = along (start_is cells p threes e k hk) t

  -- before anything is known, all are left
  pub known-none : (threes sure : List ℕ) → threes ≡ start_masks (rows_through Black Three cells p)
      → ((k : ℕ) → k < 64 → T (numbered (starts_of sure) k) → ⊥) → KnownOf cells p sure threes
  known-none threes sure e none =
      record {
        real = λ k hk t. absurd (none k hk t);
        all = λ k hk t. along (sym (start_is cells p threes e k hk)) (real-three k t);
        threes = λ k hk t. along (start_is cells p threes e k hk) t;
      }

  module _ {sure left : List ℕ} (known : KnownOf cells p sure left) where
    -- "more than one real Three" goes by the sure ones where they are enough, where the others are too few, and where none is open
    more-from : (s s' : Starts) → ((k : ℕ) → k < 64 → T (numbered s k) → T (numbered s' k)) → T (more_than_one s) → T (more_than_one s')
    unfolding numbered
    more-from s s' h =
        more-mono s s' (λ d j hd hj t.
        along (ap₂ s' (in-line d j hj) (in_cell d j hj))
        (h (16 * d + j) (omega arith) (along (sym (ap₂ s (in-line d j hj) (in_cell d j hj))) t)))

    sure-more : T (more_than_one (starts_of sure)) → T (real_double strict_of cells p)
    sure-more = more-from (starts_of sure) (real_threes strict_of cells p) known.real

    pub told_more : {b : Bool} → b ≡ more_than_one (starts_of sure) → T (more_than_one (starts_of sure) || not (more_than_one (starts_of left)))
        → b ≡ real_double strict_of cells p
    told_more eb told =
        eb ∙ both_ways (more_than_one (starts_of sure)) (real_double strict_of cells p) sure-more (λ r.
        go r (or_cases (more_than_one (starts_of sure)) (not (more_than_one (starts_of left))) told))
      where
        go : T (real_double strict_of cells p) → T (more_than_one (starts_of sure)) ⊎ T (not (more_than_one (starts_of left)))
            → T (more_than_one (starts_of sure))
        go r (inl t) = t
        go r (inr n) =
            absurd (not-elim (more_than_one (starts_of left)) n (more-from (real_threes strict_of cells p) (starts_of left) known.all r))

    pub all_more : {b : Bool} → b ≡ more_than_one (starts_of sure)
        → ((k : ℕ) → k < 64 → T (numbered (starts_of left) k) → T (numbered (starts_of sure) k)) → b ≡ real_double strict_of cells p
    all_more eb same =
        eb ∙ both_ways (more_than_one (starts_of sure)) (real_double strict_of cells p) sure-more
        (more-from (real_threes strict_of cells p) (starts_of sure) (λ k hk t. same k hk (known.all k hk t)))

    -- one that is left is a Three
    pub left-three : (k : ℕ) → k < 64 → T (numbered (starts_of left) k) → T (rows_through Black Three cells p (k / 16) (k % 16))
    unfolding numbered
    left-three k hk t = known.threes k hk t

    -- what was found of one Three
    module _ (i : ℕ) (hi : i < 64) (t : T (rows_through Black Three cells p (i / 16) (i % 16))) (found : Bool)
        (e : found ≡ is_real strict_of cells p (i / 16) (i % 16)) {sure' left' : List ℕ}
        (es : sure' ≡ cond found (start_masks (λ d j. cond (eqb (16 * d + j) i) found (starts_of sure d j))) sure)
        (el : left' ≡ cond found left (start_masks (λ d j. cond (eqb (16 * d + j) i) found (starts_of left d j)))) where
      found-real : found ≡ true → T (numbered (real_threes strict_of cells p) i)
      unfolding numbered real_threes
      found-real f = and_intro (rows_through Black Three cells p (i / 16) (i % 16)) _ t (true-T (sym e ∙ f))

      real-found : T (numbered (real_threes strict_of cells p) i) → found ≡ true
      unfolding numbered real_threes
      real-found r = e ∙ T_true (and_right (rows_through Black Three cells p (i / 16) (i % 16)) _ r)

      pub known-settled : KnownOf cells p sure' left'
      known-settled =
          record {
            real = λ k hk u. go k hk (sure-back sure i found es k hk u);
            all = λ k hk u. left-keeps left i found el k hk (known.all k hk u)
                (λ q. real-found (subst (λ (x : ℕ). T (numbered (real_threes strict_of cells p) x)) q u));
            threes = λ k hk u. known.threes k hk (left_back left i found el k hk u).0;
          }
        where
          go : (k : ℕ) → k < 64 → ((found ≡ true) × (k ≡ i)) ⊎ T (numbered (starts_of sure) k) → T (numbered (real_threes strict_of cells p) k)
          go k hk (inl f) = subst (λ (x : ℕ). T (numbered (real_threes strict_of cells p) x)) (sym f.1) (found-real f.0)
          go k hk (inr u) = known.real k hk u

      -- it is no longer open, and what was settled stays so
      pub one-settled : T (numbered (starts_of left') i) → T (numbered (starts_of sure') i)
      one-settled u = go found refl es
        where
          short : T (ltb (i % 16) 15)
          short = lt→ltb (i % 16) 15 (start-low Black Three cells p (i / 16) (i % 16) (omega arith) t)

          go : (f : Bool) → found ≡ f → sure' ≡ cond f (start_masks (λ d j. cond (eqb (16 * d + j) i) f (starts_of sure d j))) sure
              → T (numbered (starts_of sure') i)
          go true q s =
              along (sym (sure-at sure i true s i hi))
              (and_intro (ltb (i % 16) 15) (cond (eqb i i) true (numbered (starts_of sure) i)) short
              (rw (T_true {b = eqb i i} (eqb_refl i)) tt))
          go false q s = absurd ((left_back left i found el i hi u).1 q refl)

      pub stays-settled : (k : ℕ) → k < 64 → (T (numbered (starts_of left) k) → T (numbered (starts_of sure) k))
          → T (numbered (starts_of left') k) → T (numbered (starts_of sure') k)
      stays-settled k hk was u = sure-grows sure i found es k hk (was (left_back left i found el k hk u).0)

-- ---- the walk from start to start, which ends where it is told

-- the starts that are still to be asked about when the walk is at `three`: all others are settled
abbrev pub Walked : List ℕ → List ℕ → List ℕ → ℕ → Type 0
Walked rest sure left three =
    ((64 ≤ three) × T (more_than_one (starts_of sure) || not (more_than_one (starts_of left))))
    ⊎ ((k : ℕ) → k < 64 → (T (numbered (starts_of rest) k) → k < three) → T (numbered (starts_of left) k) → T (numbered (starts_of sure) k))

module _ (rest : List ℕ) (n : ℕ) (told : Bool) {r : ℕ} (e : r ≡ cond told 64 (next_from (numbered (starts_of rest)) n)) where
  pub next-there : r < 64 → T (numbered (starts_of rest) r)
  next-there h = go told e
    where
      go : (b : Bool) → r ≡ cond b 64 (next_from (numbered (starts_of rest)) n) → T (numbered (starts_of rest) r)
      go true q = absurd (omega arith)
      go false q =
          subst (λ (x : ℕ). T (numbered (starts_of rest) x)) (sym q)
          (next-on (numbered (starts_of rest)) n (subst (λ (x : ℕ). x < 64) q h))

  pub next-further : n ≤ 64 → n ≤ r
  next-further h = go told e
    where
      go : (b : Bool) → r ≡ cond b 64 (next_from (numbered (starts_of rest)) n) → n ≤ r
      go true q = omega arith
      go false q = let g = next-ge (numbered (starts_of rest)) n h in omega arith

  next-passes : (told ≡ true) ⊎ ((k : ℕ) → n ≤ k → k < r → T (numbered (starts_of rest) k) → ⊥)
  next-passes = go told refl
    where
      go : (b : Bool) → told ≡ b → (told ≡ true) ⊎ ((k : ℕ) → n ≤ k → k < r → T (numbered (starts_of rest) k) → ⊥)
      go true q = inl q
      go false q = inr (λ k l h t.
          subst T (sym (T_true t) ∙ next-none (numbered (starts_of rest)) n k l
          (subst (λ (x : ℕ). k < x) (e ∙ ap (λ (b : Bool). cond b 64 (next_from (numbered (starts_of rest)) n)) q) h)) tt)

  told-end : told ≡ true → 64 ≤ r
  told-end q = let z : r ≡ 64 = e ∙ ap (λ (b : Bool). cond b 64 (next_from (numbered (starts_of rest)) n)) q in omega arith

  -- at the first start
  pub walk_first : (sure left : List ℕ) → n ≡ 0 → told ≡ (more_than_one (starts_of sure) || not (more_than_one (starts_of left)))
      → rest ≡ start_masks (λ d j. starts_of left d j && not (starts_of sure d j)) → Walked rest sure left r
  walk_first sure left z et er = go next-passes
    where
      go : (told ≡ true) ⊎ ((k : ℕ) → n ≤ k → k < r → T (numbered (starts_of rest) k) → ⊥) → Walked rest sure left r
      go (inl q) = inl (told-end q, along et (true-T q))
      go (inr none) = inr (λ k hk h t. not-open left sure er k hk (λ u. none k (omega arith) (h u) u) t)

  -- one Three is settled, and the walk goes on behind it
  pub walk-on : (sure left sure' left' : List ℕ) (i : ℕ) → n ≡ i + 1 → i < 64
      → told ≡ (more_than_one (starts_of sure') || not (more_than_one (starts_of left')))
      → (T (numbered (starts_of left') i) → T (numbered (starts_of sure') i))
      → ((k : ℕ) → k < 64 → (T (numbered (starts_of left) k) → T (numbered (starts_of sure) k))
      → T (numbered (starts_of left') k) → T (numbered (starts_of sure') k))
      → Walked rest sure left i → Walked rest sure' left' r
  walk-on sure left sure' left' i z hi et one stays (inl was) = absurd (let w = was.0 in omega arith)
  walk-on sure left sure' left' i z hi et one stays (inr was) = go next-passes
    where
      go : (told ≡ true) ⊎ ((k : ℕ) → n ≤ k → k < r → T (numbered (starts_of rest) k) → ⊥) → Walked rest sure' left' r
      go (inl q) = inl (told-end q, along et (true-T q))
      go (inr none) = inr (λ k hk h t. at k hk h t (eqb k i) refl)
        where
          at : (k : ℕ) → k < 64 → (T (numbered (starts_of rest) k) → k < r) → T (numbered (starts_of left') k) → (b : Bool) → eqb k i ≡ b
              → T (numbered (starts_of sure') k)
          at k hk h t true q =
              let same = eqb→eq k i (true-T q) in
              subst (λ (x : ℕ). T (numbered (starts_of sure') x)) (sym same)
              (one (subst (λ (x : ℕ). T (numbered (starts_of left') x)) same t))
          at k hk h t false q =
              stays k hk (was k hk (λ u.
              let o : (k ≡ i → ⊥) = eqb-false k i q in
              let l : k < n = lt_of_not-le (λ g. none k g (h u) u) in
              omega arith)) t

-- at the end
pub walk-done : (cells : List ℕ) (p : ℕ) {sure left : List ℕ} → KnownOf cells p sure left → (rest : List ℕ) (n : ℕ) → 64 ≤ n
    → Walked rest sure left n → {b : Bool} → b ≡ more_than_one (starts_of sure) → b ≡ real_double strict_of cells p
walk-done cells p known rest n h (inl was) eb = told_more cells p known eb was.1
walk-done cells p known rest n h (inr was) eb = all_more cells p known eb (λ k hk t. was k hk (λ u. omega arith) t)

-- ---- one look at the rows through the eye e of the Three at start j of the line in direction d

module _ (l : List ℕ) (p d j : ℕ) (s : Sound l) (hp : p < 225) (hd : d < 4) (t : T (rows_through Black Three (cells_of l) p d j)) {e : ℕ}
    (at : e ≡ eye_of (cells_of l) p d j) {r : Rows} (rows : RowsAre (black_rows (cells_of l) e) r) {shut : Bool}
    (es : shut ≡ (some_row (starts_of r.fours) || some_row (starts_of r.overlinings) || more_than_one (starts_of r.swords))) where
  -- a five, an overline or a double four there: the Three is not real
  pub shut-seen : shut ≡ true → false ≡ is_real strict_of (cells_of l) p d j
  unfolding strict_by plain_by
  shut-seen h = go (some_row (starts_of r.fours)) refl (some_row (starts_of r.overlinings)) refl (more_than_one (starts_of r.swords)) refl
    where
      go : (a : Bool) → some_row (starts_of r.fours) ≡ a → (b : Bool) → some_row (starts_of r.overlinings) ≡ b
          → (c : Bool) → more_than_one (starts_of r.swords) ≡ c → false ≡ is_real strict_of (cells_of l) p d j
      go true ea b eb c ec = five-seen l p d j s hp hd t at rows refl ea
      go false ea true eb c ec =
          let v : Overline ≡ strict_by l e r = rw (ea, eb) refl in
          real-seen l p d j s hp hd t at rows refl ea v
      go false ea false eb true ec =
          let v : DoubleFour ≡ strict_by l e r = rw (ea, eb, ec) refl in
          real-seen l p d j s hp hd t at rows refl ea v
      go false ea false eb false ec = absurd (no_true (sym (es ∙ rw (ea, eb, ec) refl) ∙ h))

  -- neither that, nor more than one Two: it is real
  pub clear-seen : shut ≡ false → more_than_one (starts_of r.twos) ≡ false → true ≡ is_real strict_of (cells_of l) p d j
  unfolding strict_by plain_by
  clear-seen h m =
      go (some_row (starts_of r.fours)) refl (some_row (starts_of r.overlinings)) refl (more_than_one (starts_of r.swords)) refl
    where
      go : (a : Bool) → some_row (starts_of r.fours) ≡ a → (b : Bool) → some_row (starts_of r.overlinings) ≡ b
          → (c : Bool) → more_than_one (starts_of r.swords) ≡ c → true ≡ is_real strict_of (cells_of l) p d j
      go true ea b eb c ec = absurd (no_true (sym h ∙ es ∙ rw ea refl))
      go false ea true eb c ec = absurd (no_true (sym h ∙ es ∙ rw (ea, eb) refl))
      go false ea false eb true ec = absurd (no_true (sym h ∙ es ∙ rw (ea, eb, ec) refl))
      go false ea false eb false ec =
          let v : None ≡ strict_by l e r = rw (ea, eb, ec, m) refl in
          real-seen l p d j s hp hd t at rows refl ea v
