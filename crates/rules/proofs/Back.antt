-- The rows through a cell, counted back from it: a row of n cells goes through cell c where it starts fewer than n cells before it.
-- Assumes nothing.
use mathlib.Core.Path.{◌≡◌, ap}
use mathlib.Core.Bool.{Bool, ◌&&◌}
use Prim.Native.Nat.{ℕ, ◌+◌, ◌-◌, ◌≤◌, ◌<◌}
use native.Mathlib.Omega.{arith}
use lib.Dec.{T, leb, ltb, leb→le, le→leb, ltb→lt, lt→ltb}
use Rattle.rules.specs.Tools.{any_below}
use Rattle.rules.specs.Line.{among}
use Rattle.rules.specs.Forbidden.{apart}
use Rattle.rules.proofs.Logic.{and_left, and_right, and_intro, any-elim, any-intro, along, both_ways}
use Rattle.rules.proofs.More.{apart-elim, apart-intro}

module _ (n c : ℕ) (row : ℕ → Bool) where
  -- the row at j goes through the cell
  abbrev pub from : ℕ → Bool
  from j = among n j c && row j

  -- a row starts k cells before it
  abbrev pub back : ℕ → Bool
  back k = leb k c && row (c - k)

  -- two that do, two cells or more from each other
  abbrev pub backs : ℕ → Bool
  backs k = back k && any_below n (λ l. leb (k + 2) l && back l)

  record Reached (j : ℕ) : Type 0 where
    near : j ≤ c
    far : c < j + n
    is_back : T (back (c - j))

  reached : (j : ℕ) → T (from j) → Reached j
  unfolding among
  reached j t =
      let a : T (leb j c && ltb c (j + n)) = and_left (leb j c && ltb c (j + n)) (row j) t in
      let le : j ≤ c = leb→le j c (and_left (leb j c) (ltb c (j + n)) a) in
      let q : j ≡ c - (c - j) = omega arith in
      record {
        near = le;
        far = ltb→lt c (j + n) (and_right (leb j c) (ltb c (j + n)) a);
        is_back = and_intro (leb (c - j) c) (row (c - (c - j))) (le→leb (c - j) c (omega arith))
            (along (ap row q) (and_right (leb j c && ltb c (j + n)) (row j) t));
      }

  back-le : (k : ℕ) → T (back k) → k ≤ c
  back-le k t = leb→le k c (and_left (leb k c) (row (c - k)) t)

  back_from : (k : ℕ) → k < n → T (back k) → T (from (c - k))
  unfolding among
  back_from k h t =
      let le : k ≤ c = back-le k t in
      and_intro (leb (c - k) c && ltb c (c - k + n)) (row (c - k))
      (and_intro (leb (c - k) c) (ltb c (c - k + n)) (le→leb (c - k) c (omega arith)) (lt→ltb c (c - k + n) (omega arith)))
      (and_right (leb k c) (row (c - k)) t)

  module _ (low : (j : ℕ) → T (row j) → j < 16) where
    back_low : (k : ℕ) → T (back k) → c - k < 16
    back_low k t = low (c - k) (and_right (leb k c) (row (c - k)) t)

    -- THE LAWS: some row goes through the cell, and rows that are apart do
    pub some_back : any_below 16 from ≡ any_below n back
    some_back =
        both_ways (any_below 16 from) (any_below n back)
        (λ t.
        let (j, h, u) = any-elim 16 from t in
        let r = reached j u in
        let near = r.near in
        let far = r.far in
        any-intro n back (c - j) (omega arith) r.is_back)
        (λ t.
        let (k, h, u) = any-elim n back t in
        any-intro 16 from (c - k) (back_low k u) (back_from k h u))

    pub apart-back : apart 16 from ≡ any_below n backs
    apart-back =
        both_ways (apart 16 from) (any_below n backs)
        (λ t.
        let w = apart-elim 16 from t in
        let r = reached w.j w.here in
        let s = reached w.k w.there in
        let far = w.far in
        let rn = r.near in
        let rf = r.far in
        let sn = s.near in
        let sf = s.far in
        let second : ℕ → Bool = λ l. leb (c - w.k + 2) l && back l in
        any-intro n backs (c - w.k) (omega arith)
        (and_intro (back (c - w.k)) (any_below n second) s.is_back
        (any-intro n second (c - w.j) (omega arith)
        (and_intro (leb (c - w.k + 2) (c - w.j)) (back (c - w.j)) (le→leb (c - w.k + 2) (c - w.j) (omega arith)) r.is_back))))
        (λ t.
        let (k, h, u) = any-elim n backs t in
        let first : T (back k) = and_left (back k) (any_below n (λ l. leb (k + 2) l && back l)) u in
        let (l, g, v) = any-elim n (λ l. leb (k + 2) l && back l) (and_right (back k) (any_below n (λ l. leb (k + 2) l && back l)) u) in
        let second : T (back l) = and_right (leb (k + 2) l) (back l) v in
        let far : k + 2 ≤ l = leb→le (k + 2) l (and_left (leb (k + 2) l) (back l) v) in
        let le : l ≤ c = back-le l second in
        apart-intro 16 from
        (record {
          j = c - l;
          k = c - k;
          far = omega arith;
          k_lt = back_low k first;
          here = back_from l g second;
          there = back_from k h first;
        }))
