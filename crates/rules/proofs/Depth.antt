-- How deep a strict question goes: the law of fuel for it, that it is at most the number of empty points, that it is the same in all eight
-- views, and the search for the deepest from start to start. Assumes nothing.
use mathlib.Core.Path.{◌≡◌, refl, sym, subst, subst⁻¹, ap, ◌∙◌}
use mathlib.Core.Bool.{Bool, true, false, not, ◌&&◌, cond}
use mathlib.Core.Logic.{◌⊎◌, inl, inr}
use mathlib.Core.List.{List}
use Prim.Native.Nat.{ℕ, zero, suc, ◌+◌, ◌*◌, ◌/◌, ◌%◌, ◌≤◌, ◌<◌}
use native.Mathlib.Nat.{eq-or-lt_of_le, le_of_suc-le-suc, not-suc-le-zero}
use native.Mathlib.Numerals.{add-one}
use native.Mathlib.Omega.{arith}
use native.Mathlib.Decide.{dec_lt}
use lib.Dec.{T, leb, leb→le, le→leb}
use lib.ListN.{length, get_or, length-set}
use borrow.Author.Tests.{leb-true, leb-false}
use Rattle.rules.specs.Point.{line_no, line_size, point_at}
use Rattle.rules.specs.Grid.{is_empty, empties, stone_at, rows_through, eye_on, start_masks, starts_of, numbered, next_from}
use Rattle.rules.specs.Forbidden.{Ask, with_black, completes_five, is_overline, is_double_four, more_twos, nested_n, nested_of}
use Rattle.rules.specs.Forbidden.{gap_from, eye_of}
use Rattle.rules.specs.Depth.{larger, greatest, counts, asks_nested, eye_depth, three_depth, deepest, depth_with, depth_of}
use Rattle.rules.specs.Views.{turn, undo, turn_cells}
use Rattle.rules.specs.declared.Player.TheVariants.{Black}
use Rattle.rules.specs.declared.RowKind.TheVariants.{Two, Three}
use Rattle.rules.proofs.Logic.{T_true, along, and_left, and_right, and_intro, both_ways}
use Rattle.rules.proofs.Address.{point-lt, line-here, size-le}
use Rattle.rules.proofs.Turns.{turn_dir, flips, turn-lt, turn-undo, undo-lt, dir-lt, turn-point}
use Rattle.rules.proofs.Rows.{start-lt, through-inside, eye-inside}
use Rattle.rules.proofs.More.{TwoLines, TwoApart, more-elim}
use Rattle.rules.proofs.Numbered.{in-line, in_cell, next_le, next-ge, next-none}
use Rattle.rules.proofs.Grown.{two-three}
use Rattle.rules.proofs.Gap.{eye-open, eye-on, eye-only}
use Rattle.rules.proofs.Search.{start_is, three-there}
use Rattle.rules.proofs.Changes.{empties-le}
use Rattle.rules.proofs.Fuel.{Nests, fewer, nested-step}
use Rattle.rules.proofs.Eight.{Turned, Blind, turned-back, turned-put, move, moved-matched, eye-turn, through-turn}
use Rattle.rules.proofs.Eight.{kept-eq, five-kept, overline-kept, double-four-kept, twos-kept}
use Rattle.rules.proofs.Views.{turned-cells, nested-view}

-- ---- the greatest of some numbers

pub larger-left : (a b : ℕ) → a ≤ larger a b
unfolding larger
larger-left a b = go (leb a b) refl
  where
    go : (t : Bool) → leb a b ≡ t → a ≤ cond t b a
    go true e = leb-true a b e
    go false e = omega arith

pub larger-right : (a b : ℕ) → b ≤ larger a b
unfolding larger
larger-right a b = go (leb a b) refl
  where
    go : (t : Bool) → leb a b ≡ t → b ≤ cond t b a
    go true e = omega arith
    go false e = omega (arith, leb-false a b e)

larger-le : (a b m : ℕ) → a ≤ m → b ≤ m → larger a b ≤ m
unfolding larger
larger-le a b m ha hb = go (leb a b)
  where
    go : (t : Bool) → cond t b a ≤ m
    go true = hb
    go false = ha

-- the larger of two is at most m exactly where both are
pub larger-leb : (a b m : ℕ) → leb (larger a b) m ≡ (leb a m && leb b m)
larger-leb a b m =
    both_ways (leb (larger a b) m) (leb a m && leb b m)
    (λ t.
    let h = leb→le (larger a b) m t in
    and_intro (leb a m) (leb b m)
    (le→leb a m (omega (arith, h, larger-left a b)))
    (le→leb b m (omega (arith, h, larger-right a b))))
    (λ t.
    le→leb (larger a b) m
    (larger-le a b m (leb→le a m (and_left (leb a m) (leb b m) t)) (leb→le b m (and_right (leb a m) (leb b m) t))))

greatest-ge : (n : ℕ) (f : ℕ → ℕ) (i : ℕ) → i < n → f i ≤ greatest n f
unfolding greatest
greatest-ge zero f i h = absurd (not-suc-le-zero h)
greatest-ge (suc n) f i h =
    let l = larger-left (f n) (greatest n f) in
    let r = larger-right (f n) (greatest n f) in
    elim (eq-or-lt_of_le (le_of_suc-le-suc h)) [
      | inl e ↦ subst⁻¹ (λ (x : ℕ). f x ≤ larger (f n) (greatest n f)) e l
      | inr k ↦ let g = greatest-ge n f i k in omega arith
    ]

greatest-le : (n : ℕ) (f : ℕ → ℕ) (m : ℕ) → ((i : ℕ) → i < n → f i ≤ m) → greatest n f ≤ m
unfolding greatest
greatest-le zero f m h = omega arith
greatest-le (suc n) f m h =
    larger-le (f n) (greatest n f) m (h n (omega arith)) (greatest-le n f m (λ i l. h i (omega arith)))

counts-ge : (b : Bool) (x : ℕ) → T b → x ≤ counts b x
counts-ge true x t = omega arith
counts-ge false x t = absurd t

counts-le : (b : Bool) (x m : ℕ) → (T b → x ≤ m) → counts b x ≤ m
counts-le true x m h = h tt
counts-le false x m h = omega arith

-- ---- the deepest question: at least that at each eye of each Three, and at most what all of these are at most

module _ (ask : Ask ℕ) (cells : List ℕ) (p : ℕ) where
  abbrev at : ℕ → ℕ → ℕ
  at d e = eye_depth ask cells (point_at d (line_no d p) e)

  abbrev eye_there : ℕ → ℕ → ℕ → Bool
  eye_there d j e = eye_on Black Three cells d (line_no d p) j e

  deepest-ge : (d j e : ℕ) → d < 4 → e < 16 → T (rows_through Black Three cells p d j) → T (eye_there d j e) → at d e ≤ deepest ask cells p
  unfolding deepest three_depth
  deepest-ge d j e hd he t u =
      let three : ℕ → ℕ → ℕ = λ d j. greatest 16 (λ e. counts (eye_there d j e) (at d e)) in
      let line : ℕ → ℕ = λ d. greatest 16 (λ j. counts (rows_through Black Three cells p d j) (three d j)) in
      let a = counts-ge (eye_there d j e) (at d e) u in
      let b = greatest-ge 16 (λ e. counts (eye_there d j e) (at d e)) e he in
      let c = counts-ge (rows_through Black Three cells p d j) (three d j) t in
      let f = greatest-ge 16 (λ j. counts (rows_through Black Three cells p d j) (three d j)) j (start-lt Black Three cells p d j t) in
      let g = greatest-ge 4 line d hd in
      omega arith

  deepest-le : (m : ℕ) → ((d j e : ℕ) → d < 4 → T (rows_through Black Three cells p d j) → T (eye_there d j e) → at d e ≤ m)
      → deepest ask cells p ≤ m
  unfolding deepest three_depth
  deepest-le m h =
      let three : ℕ → ℕ → ℕ = λ d j. greatest 16 (λ e. counts (eye_there d j e) (at d e)) in
      greatest-le 4 _ m (λ d hd.
      greatest-le 16 _ m (λ j hj.
      counts-le (rows_through Black Three cells p d j) (three d j) m (λ t.
      greatest-le 16 _ m (λ e he. counts-le (eye_there d j e) (at d e) m (λ u. h d j e hd t u)))))

-- an eye's cell is one of a mask's
eye-low : (cells : List ℕ) (d i j e : ℕ) → T (eye_on Black Three cells d i j e) → e < 16
eye-low cells d i j e u = omega (arith, eye-inside Black Three cells d i j e u, size-le d i)

-- an eye is a point
eye-point : (cells : List ℕ) (p d j e : ℕ) → p < 225 → d < 4 → T (eye_on Black Three cells d (line_no d p) j e)
    → point_at d (line_no d p) e < 225
eye-point cells p d j e hp hd u =
    point-lt d (line_no d p) e hd (line-here d p hd hp) (eye-inside Black Three cells d (line_no d p) j e u)

-- ---- THE FUEL: the law of any question that asks itself holds of the depth

module _ (cells : List ℕ) (p : ℕ) (hp : p < 225) (ask ask' : Ask ℕ) (same : (e : ℕ) → e < 225 → ask cells e ≡ ask' cells e) where
  deepest-below : deepest ask cells p ≤ deepest ask' cells p
  unfolding eye_depth
  deepest-below =
      deepest-le ask cells p (deepest ask' cells p) (λ d j e hd t u.
      let q = point_at d (line_no d p) e in
      subst⁻¹ (λ (x : ℕ). cond (completes_five cells q) 1 x ≤ deepest ask' cells p) (same q (eye-point cells p d j e hp hd u))
      (deepest-ge ask' cells p d j e hd (eye-low cells d (line_no d p) j e u) t u))

pub deepest-same : (cells : List ℕ) (p : ℕ) → p < 225 → (ask ask' : Ask ℕ) → ((e : ℕ) → e < 225 → ask cells e ≡ ask' cells e)
    → deepest ask cells p ≡ deepest ask' cells p
deepest-same cells p hp ask ask' same =
    let a = deepest-below cells p hp ask ask' same in
    let b = deepest-below cells p hp ask' ask (λ e he. sym (same e he)) in
    omega arith

pub depth-nests : Nests 0 depth_with
unfolding depth_with
depth-nests =
    record {
      taken = λ ask cells p z. rw z;
      asks = λ ask ask' cells p l hp z same.
          rw z (ap (λ (x : ℕ). cond (asks_nested cells p) (suc x) 1) (deepest-same (with_black cells p) p hp ask ask' same));
    }

-- THE STEP: the depth of a question by those of the questions inside it
pub depth-step : (cells : List ℕ) (p : ℕ) → length cells ≡ 225 → p < 225 → depth_of cells p ≡ depth_with depth_of cells p
unfolding depth_of
depth-step cells p l hp = nested-step 0 depth_with depth-nests cells p l hp

-- ---- THE BOUND: at most the number of empty points

deepest-bound : (ask : Ask ℕ) (cells : List ℕ) (p : ℕ) → length cells ≡ 225 → p < 225 → ((e : ℕ) → e < 225 → ask cells e ≤ empties cells)
    → deepest ask cells p ≤ empties cells
unfolding eye_depth
deepest-bound ask cells p l hp h =
    deepest-le ask cells p (empties cells) (λ d j e hd t u.
    let q = point_at d (line_no d p) e in
    let hq = eye-point cells p d j e hp hd u in
    go q (completes_five cells q) (h q hq) (fewer cells q l hq (eye-open cells d (line_no d p) j e u)))
  where
    go : (q : ℕ) (b : Bool) → ask cells q ≤ empties cells → empties cells ≡ suc (empties (with_black cells q))
        → cond b 1 (ask cells q) ≤ empties cells
    go q true a f = omega arith
    go q false a f = a

fuel-bound : (n : ℕ) (cells : List ℕ) (p : ℕ) → length cells ≡ 225 → p < 225 → nested_n 0 depth_with n cells p ≤ empties cells
unfolding nested_n depth_with
fuel-bound zero cells p l hp = omega arith
fuel-bound (suc n) cells p l hp =
    go (is_empty (get_or cells p 0)) (asks_nested cells p) (deepest (nested_n 0 depth_with n) (with_black cells p) p) refl
    (deepest-bound (nested_n 0 depth_with n) (with_black cells p) p (length-set cells p 1 ∙ l) hp
    (λ e he. fuel-bound n (with_black cells p) e (length-set cells p 1 ∙ l) he))
  where
    go : (b c : Bool) (m : ℕ) → is_empty (get_or cells p 0) ≡ b → m ≤ empties (with_black cells p) → cond b (cond c (suc m) 1) 0 ≤ empties cells
    go true true m z h = let f = fewer cells p l hp z in omega arith
    go true false m z h = let f = fewer cells p l hp z in omega arith
    go false c m z h = omega arith

-- "be at most the number of empty points"
pub depth-most : (cells : List ℕ) (p : ℕ) → length cells ≡ 225 → p < 225 → depth_of cells p ≤ empties cells
unfolding depth_of nested_of
depth-most cells p l hp = fuel-bound (empties cells) cells p l hp

pub deepest-most : (cells : List ℕ) (p : ℕ) → length cells ≡ 225 → p < 225 → deepest depth_of cells p ≤ empties cells
deepest-most cells p l hp = deepest-bound depth_of cells p l hp (λ e he. depth-most cells e l he)

-- ---- THE EIGHT VIEWS

eye-blind : (ask : Ask ℕ) → Blind ask → Blind (eye_depth ask)
unfolding eye_depth
eye-blind ask blind v A B p hv t hp = rw (kept-eq completes_five five-kept v A B p hv t hp, blind v A B p hv t hp)

deepest-turn : (ask : Ask ℕ) → Blind ask → (v : ℕ) (A B : List ℕ) (p : ℕ) → v < 8 → Turned v A B → p < 225
    → deepest ask A p ≤ deepest ask B (turn v p)
deepest-turn ask blind v A B p hv t hp =
    deepest-le ask A p (deepest ask B (turn v p)) (λ d j e hd u w.
    let i = line_no d p in
    let he = eye-inside Black Three A d i j e w in
    let f = through-inside Black Three A p d j u in
    let (s, ms) = move (flips v d) (line_size d i) 4 j (omega arith) in
    let (h, mh) = move (flips v d) (line_size d i) 1 e (omega arith) in
    let three = through-turn v A B p d hv t hp hd Black Three j s ms u in
    let eye = eye-turn v A B p d hv t hp hd Black j s e h ms mh w in
    let q = turn-point v d p hv hd hp e h he (moved-matched (flips v d) (line_size d i) e h mh) in
    let same = ap (eye_depth ask B) q ∙ eye-blind ask blind v A B (point_at d i e) hv t (eye-point A p d j e hp hd w) in
    subst (λ (x : ℕ). x ≤ deepest ask B (turn v p)) same
    (deepest-ge ask B (turn v p) (turn_dir v d) s h (dir-lt v d hv hd)
    (eye-low B (turn_dir v d) (line_no (turn_dir v d) (turn v p)) s h eye) three eye))

deepest-blind : (ask : Ask ℕ) → Blind ask → Blind (deepest ask)
deepest-blind ask blind v A B p hv t hp =
    let there = deepest-turn ask blind v A B p hv t hp in
    let back = deepest-turn ask blind (undo v) B A (turn v p) (undo-lt v hv) (turned-back hv t) (turn-lt v p hv hp) in
    let home : deepest ask B (turn v p) ≤ deepest ask A p =
    subst (λ (q : ℕ). deepest ask B (turn v p) ≤ deepest ask A q) (turn-undo v p hv hp) back in
    omega arith

depth-with-blind : (ask : Ask ℕ) → Blind ask → Blind (depth_with ask)
unfolding depth_with asks_nested
depth-with-blind ask blind v A B p hv t hp =
    rw (
      t.same p hp,
      kept-eq completes_five five-kept v A B p hv t hp,
      kept-eq is_overline overline-kept v A B p hv t hp,
      kept-eq is_double_four double-four-kept v A B p hv t hp,
      kept-eq more_twos twos-kept v A B p hv t hp,
      deepest-blind ask blind v (with_black A p) (with_black B (turn v p)) p hv (turned-put Black p hv hp t) hp,
    )

-- "It is the same in all eight views."
pub depth-view : (v : ℕ) (cells : List ℕ) (p : ℕ) → v < 8 → length cells ≡ 225 → p < 225
    → depth_of (turn_cells v cells) (turn v p) ≡ depth_of cells p
unfolding depth_of
depth-view v cells p hv l hp =
    nested-view 0 depth_with depth-nests depth-with-blind v cells (turn_cells v cells) p hv (turned-cells v cells hv l) hp

-- ---- the depth by the cell at p and by whether a nested question is asked

module _ (cells : List ℕ) (p : ℕ) (l : length cells ≡ 225) (hp : p < 225) where
  pub depth-taken : is_empty (get_or cells p 0) ≡ false → 0 ≡ depth_of cells p
  unfolding depth_with
  depth-taken z = sym (depth-step cells p l hp ∙ rw z refl)

  pub depth-one : is_empty (get_or cells p 0) ≡ true → asks_nested cells p ≡ false → 1 ≡ depth_of cells p
  unfolding depth_with
  depth-one z a = sym (depth-step cells p l hp ∙ rw (z, a) refl)

  pub depth-more : is_empty (get_or cells p 0) ≡ true → asks_nested cells p ≡ true → {n : ℕ} → n ≡ deepest depth_of (with_black cells p) p
      → 1 + n ≡ depth_of cells p
  unfolding depth_with
  depth-more z a {n} e =
      let s : depth_of cells p ≡ suc (deepest depth_of (with_black cells p) p) = depth-step cells p l hp ∙ rw (z, a) refl in
      omega arith

  -- one more is a byte
  pub depth-byte : is_empty (get_or cells p 0) ≡ true → {n : ℕ} → n ≡ deepest depth_of (with_black cells p) p → 1 + n < 256
  depth-byte z {n} e =
      omega (arith, deepest-most (with_black cells p) p (length-set cells p 1 ∙ l) hp, fewer cells p l hp z, empties-le cells)

  pub one-at-least : is_empty (get_or cells p 0) ≡ true → 1 ≤ depth_of cells p
  one-at-least z = go (asks_nested cells p) refl
    where
      go : (b : Bool) → asks_nested cells p ≡ b → 1 ≤ depth_of cells p
      go true a = let e = depth-more z a refl in omega arith
      go false a = let e = depth-one z a in omega arith

  -- an eye that completes a five counts as the strict question there does, which asks nothing
  pub eye-depth-is : is_empty (get_or cells p 0) ≡ true → eye_depth depth_of cells p ≡ depth_of cells p
  unfolding eye_depth asks_nested
  eye-depth-is z = go (completes_five cells p) refl
    where
      go : (b : Bool) → completes_five cells p ≡ b → cond b 1 (depth_of cells p) ≡ depth_of cells p
      go true f = depth-one z (rw f refl)
      go false f = refl

  pub eye-at-least : is_empty (get_or cells p 0) ≡ true → 1 ≤ eye_depth depth_of cells p
  eye-at-least z = let e = eye-depth-is z in let o = one-at-least z in omega arith

-- by what the tests of section 5 say
pub nested-told : (cells : List ℕ) (p : ℕ) {five o f m : Bool} → five ≡ completes_five cells p → o ≡ is_overline cells p
    → f ≡ is_double_four cells p → m ≡ more_twos cells p → {b : Bool} → b ≡ (not five && not o && not f && m) → b ≡ asks_nested cells p
unfolding asks_nested
nested-told cells p e5 eo ef em eb = eb ∙ rw (e5, eo, ef, em) refl

-- ---- the search for the deepest, Three by Three

-- the deepest question at the eyes of the Threes with numbers below n
unfoldable pub deepest_below : Ask ℕ → List ℕ → ℕ → ℕ → ℕ
deepest_below ask cells p n =
    greatest n (λ k. counts (numbered (rows_through Black Three cells p) k) (eye_depth ask cells (eye_of cells p (k / 16) (k % 16))))

greatest-skip : (f : ℕ → ℕ) (n m : ℕ) → n ≤ m → ((i : ℕ) → n ≤ i → i < m → f i ≡ 0) → greatest m f ≡ greatest n f
greatest-skip f n m h none =
    let a : greatest n f ≤ greatest m f = greatest-le n f (greatest m f) (λ i l. greatest-ge m f i (omega arith)) in
    let b : greatest m f ≤ greatest n f = greatest-le m f (greatest n f) (λ i l. at i l (dec_lt i n)) in
    omega arith
  where
    at : (i : ℕ) → i < m → Dec (i < n) → f i ≤ greatest n f
    at i l (yes k) = greatest-ge n f i k
    at i l (no k) = let e = none i (omega arith) l in omega arith

module _ (ask : Ask ℕ) (cells : List ℕ) (p : ℕ) (hp : p < 225) where
  abbrev three : ℕ → Bool
  three k = numbered (rows_through Black Three cells p) k

  abbrev eye : ℕ → ℕ
  eye k = eye_depth ask cells (eye_of cells p (k / 16) (k % 16))

  abbrev value : ℕ → ℕ
  value k = counts (three k) (eye k)

  all-le : deepest_below ask cells p 64 ≤ deepest ask cells p
  unfolding deepest_below numbered eye_of
  all-le =
      greatest-le 64 value (deepest ask cells p) (λ k hk.
      counts-le (three k) (eye k) (deepest ask cells p) (λ t.
      let d = k / 16 in
      let j = k % 16 in
      let hd : k / 16 < 4 = omega arith in
      let u = eye-on cells p d j hp hd t in
      deepest-ge ask cells p d j (gap_from (stone_at Black cells d (line_no d p)) j) hd
      (eye-low cells d (line_no d p) j (gap_from (stone_at Black cells d (line_no d p)) j) u) t u))

  all-ge : deepest ask cells p ≤ deepest_below ask cells p 64
  unfolding deepest_below numbered eye_of
  all-ge =
      deepest-le ask cells p (greatest 64 value) (λ d j e hd t u.
      let hj = start-lt Black Three cells p d j t in
      let k = 16 * d + j in
      let at : ℕ → ℕ → ℕ = λ d j.
      counts (rows_through Black Three cells p d j)
      (eye_depth ask cells (point_at d (line_no d p) (gap_from (stone_at Black cells d (line_no d p)) j))) in
      let named : at ((16 * d + j) / 16) ((16 * d + j) % 16) ≡ at d j = rw (in-line d j hj, in_cell d j hj) refl in
      let there = greatest-ge 64 value (16 * d + j) (omega arith) in
      let here = counts-ge (rows_through Black Three cells p d j)
      (eye_depth ask cells (point_at d (line_no d p) (gap_from (stone_at Black cells d (line_no d p)) j))) t in
      let moved = subst (λ (x : ℕ). x ≤ greatest 64 value) named there in
      subst⁻¹ (λ (x : ℕ). eye_depth ask cells (point_at d (line_no d p) x) ≤ greatest 64 value) (eye-only cells p d j hp hd t e u)
      (omega (arith, here, moved)))

  pub deepest-all : {n : ℕ} → n ≡ 64 → deepest_below ask cells p n ≡ deepest ask cells p
  deepest-all e = rw e (let a = all-le in let b = all-ge in omega arith)

  module _ (starts : List ℕ) (es : starts ≡ start_masks (rows_through Black Three cells p)) where
    -- from one start to the next nothing counts
    pub to-three : (n k : ℕ) → n ≤ 64 → k ≡ next_from (numbered (starts_of starts)) n → deepest_below ask cells p k ≡ deepest_below ask cells p n
    unfolding deepest_below
    to-three n k hn ek =
        let g = next-ge (numbered (starts_of starts)) n hn in
        let h = next_le (numbered (starts_of starts)) n in
        greatest-skip value n k (omega arith) (λ i a b.
        rw (sym (start_is cells p starts es i (omega arith)) ∙ next-none (numbered (starts_of starts)) n i a (omega arith)) refl)

    -- the Three at k is asked, and the search goes on behind it
    pub one_deeper : (n k : ℕ) → k ≡ next_from (numbered (starts_of starts)) n → k < 64 → {deep here next : ℕ}
        → deep ≡ deepest_below ask cells p k → here ≡ eye_depth ask cells (eye_of cells p (k / 16) (k % 16))
        → next ≡ next_from (numbered (starts_of starts)) (k + 1) → larger here deep ≡ deepest_below ask cells p next
    unfolding deepest_below greatest numbered
    one_deeper n k ek hk {deep} {here} {next} ed eh en =
        let t = T_true {b = rows_through Black Three cells p (k / 16) (k % 16)} (three-there cells p starts es n k ek hk) in
        let v : value k ≡ here = rw t (sym eh) in
        let more : deepest_below ask cells p (k + 1) ≡ larger (value k) (deepest_below ask cells p k) = rw add-one refl in
        sym (to-three (k + 1) next (omega arith) en ∙ more ∙ rw (v, sym ed) refl)

-- ---- where a nested question is asked the depth is two at least

pub two-at-least : (cells : List ℕ) (p : ℕ) → length cells ≡ 225 → p < 225 → get_or cells p 0 ≡ 0 → asks_nested cells p ≡ true
    → 2 ≤ depth_of cells p
unfolding asks_nested
two-at-least cells p l hp z a = go (more-elim (rows_through Black Two cells p) twos)
  where
    free : is_empty (get_or cells p 0) ≡ true
    free = rw z refl

    twos : T (more_twos cells p)
    twos =
        and_right (not (completes_five cells p) && not (is_overline cells p) && not (is_double_four cells p)) (more_twos cells p)
        (subst⁻¹ T a tt)

    at : (d j : ℕ) → d < 4 → T (rows_through Black Two cells p d j) → 2 ≤ depth_of cells p
    at d j hd t =
        let C = with_black cells p in
        let three = along (two-three Black cells p d l hp hd z j) t in
        let e = gap_from (stone_at Black C d (line_no d p)) j in
        let u = eye-on C p d j hp hd three in
        let g = deepest-ge depth_of C p d j e hd (eye-low C d (line_no d p) j e u) three u in
        let o = eye-at-least C (point_at d (line_no d p) e) (length-set cells p 1 ∙ l) (eye-point C p d j e hp hd u)
        (eye-open C d (line_no d p) j e u) in
        let s = depth-more cells p l hp free a refl in
        omega arith

    go : TwoLines (rows_through Black Two cells p) ⊎ ((d : ℕ) × (d < 4) × TwoApart (rows_through Black Two cells p d)) → 2 ≤ depth_of cells p
    go (inl w) = at w.d1 w.j1 w.d1-lt w.here
    go (inr (d, hd, w)) = at d w.j hd w.here
