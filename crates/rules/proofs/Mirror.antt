-- A line read backwards has the same rows. Assumes nothing.
use mathlib.Core.Path.{◌≡◌, refl, sym, ap, ap₂, ◌∙◌}
use mathlib.Core.Bool.{Bool, true, false, not, ◌&&◌, ◌||◌, or_comm}
use Prim.Native.Nat.{ℕ, zero, suc, ◌+◌, ◌-◌, ◌≤◌, ◌<◌}
use native.Mathlib.Nat.{add-zero}
use native.Mathlib.Omega.{arith}
use lib.Dec.{T, leb, ltb, leb→le, le→leb, ltb→lt, lt→ltb}
use borrow.Author.Tests.{le-leb, lt-leb}
use Rattle.rules.specs.Bit.{digit}
use Rattle.rules.specs.Line.{Stones, inside, free, count, beside, dead, scores, holds, pair_at, no_stone, open_at, over_at, row_at, span}
use Rattle.rules.specs.Line.{among, empty_at, eye_span, is_eye}
use Rattle.rules.specs.declared.RowKind.{RowKind}
use Rattle.rules.specs.declared.RowKind.TheVariants.{Two, Three, Straight, Sword, Four, Five, Overlining, Overlined}
use Rattle.rules.proofs.Logic.{and_left, and_right, and_intro, along, not-false, false-not, both_ways}
use Rattle.rules.proofs.Tables.{table5}
use Rattle.rules.proofs.Windows.{scored, held, free-at, pair-elim, pair-intro}

-- ---- g is f read backwards on a line of n cells, with no stone outside

pub record Mirror (n : ℕ) (f g : Stones) : Type 0 where
  pub across : (j k : ℕ) → j + k + 1 ≡ n → g k ≡ f j
  pub left_out : (j : ℕ) → n ≤ j → f j ≡ false
  pub right_out : (j : ℕ) → n ≤ j → g j ≡ false

pub turn-round : {n : ℕ} {f g : Stones} → Mirror n f g → Mirror n g f
turn-round m = record { across = λ j k e. sym (m.across k j (omega arith)); left_out = m.right_out; right_out = m.left_out }

-- the window at s of g is the window at j of f
module _ (n : ℕ) (f g : Stones) (m : Mirror n f g) (j s : ℕ) (e : j + s + 5 ≡ n) where
  count-back : count g s ≡ count f j
  unfolding count
  count-back =
      rw (
        m.across (j + 4) s (omega arith),
        m.across (j + 3) (s + 1) (omega arith),
        m.across (j + 2) (s + 2) (omega arith),
        m.across (j + 1) (s + 3) (omega arith),
        m.across j (s + 4) (omega arith),
      )
      (omega arith)

  free_back : free g s ≡ free f j
  unfolding free
  free_back =
      rw (
        m.across (j + 4) s (omega arith),
        m.across (j + 3) (s + 1) (omega arith),
        m.across (j + 2) (s + 2) (omega arith),
        m.across (j + 1) (s + 3) (omega arith),
        m.across j (s + 4) (omega arith),
      )
      (table5 (λ a b c d e. not e && not d && not c && not b && not a) (λ a b c d e. not a && not b && not c && not d && not e) tt
      (f j) (f (j + 1)) (f (j + 2)) (f (j + 3)) (f (j + 4)))

  before_back : (leb 1 s && g (s - 1)) ≡ f (j + 5)
  before_back = at s refl
    where
      at : (i : ℕ) → s ≡ i → (leb 1 s && g (s - 1)) ≡ f (j + 5)
      at zero q = ap (λ (t : Bool). t && g (s - 1)) (lt-leb 1 s (omega arith)) ∙ sym (m.left_out (j + 5) (omega arith))
      at (suc i) q = ap (λ (t : Bool). t && g (s - 1)) (le-leb 1 s (omega arith)) ∙ m.across (j + 5) (s - 1) (omega arith)

  after-back : g (s + 5) ≡ (leb 1 j && f (j - 1))
  after-back = at j refl
    where
      at : (i : ℕ) → j ≡ i → g (s + 5) ≡ (leb 1 j && f (j - 1))
      at zero q = m.right_out (s + 5) (omega arith) ∙ sym (ap (λ (t : Bool). t && f (j - 1)) (lt-leb 1 j (omega arith)))
      at (suc i) q = m.across (j - 1) (s + 5) (omega arith) ∙ sym (ap (λ (t : Bool). t && f (j - 1)) (le-leb 1 j (omega arith)))

  beside_back : beside g s ≡ beside f j
  unfolding beside
  beside_back = ap₂ ◌||◌ before_back after-back ∙ or_comm (f (j + 5)) (leb 1 j && f (j - 1))

inside_back : (n j s : ℕ) → j + s + 5 ≡ n → inside n s ≡ inside n j
unfolding inside
inside_back n j s e = le-leb (s + 5) n (omega arith) ∙ sym (le-leb (j + 5) n (omega arith))

-- ---- two windows side by side with as many own stones, both free: the cell before them is empty if the cell after them is

digits : (a b : Bool) → digit a ≡ digit b → a ≡ b
digits true true e = refl
digits true false e = absurd (omega arith)
digits false true e = absurd (omega arith)
digits false false e = refl

-- cell a of the window at i + 1, counted from i
step : (f : Stones) (i a b : ℕ) → 1 + a ≡ b → f (i + 1 + a) ≡ f (i + b)
step f i a b e = ap f (let q : i + 1 + a ≡ i + b = omega arith in q)

ends : (own : Stones) (k i : ℕ) → count own i ≡ k → count own (i + 1) ≡ k → own i ≡ own (i + 5)
unfolding count
ends own k i p q =
    let r = rw (step own i 1 2 refl, step own i 2 3 refl, step own i 3 4 refl, step own i 4 5 refl) at q in
    digits (own i) (own (i + 5)) (omega arith)

-- a cell among m cells, both read backwards
pub among-back : (m n j s i h : ℕ) → j + s + m ≡ n → i + h + 1 ≡ n → T (among m j i) → T (among m s h)
unfolding among
among-back m n j s i h e e' t =
    let a : j ≤ i = leb→le j i (and_left (leb j i) (ltb i (j + m)) t) in
    let b : i < j + m = ltb→lt i (j + m) (and_right (leb j i) (ltb i (j + m)) t) in
    and_intro (leb s h) (ltb h (s + m)) (le→leb s h (omega arith)) (lt→ltb h (s + m) (omega arith))

module _ (black : Bool) (n : ℕ) (o w o' w' : Stones) (mo : Mirror n o o') (mw : Mirror n w w') where
  holds-back : (k j s : ℕ) → j + s + 5 ≡ n → holds n o' w' k s ≡ holds n o w k j
  unfolding holds
  holds-back k j s e = rw (inside_back n j s e, free_back n w w' mw j s e, count-back n o o' mo j s e)

  scores-back : (k j s : ℕ) → j + s + 5 ≡ n → scores black n o' w' k s ≡ scores black n o w k j
  unfolding scores dead
  scores-back k j s e =
      rw (inside_back n j s e, free_back n w w' mw j s e, beside_back n o o' mo j s e, count-back n o o' mo j s e)

  -- one law for both kinds of pairs of windows
  pair-back : (P Q : ℕ → Bool) → ((j : ℕ) → T (P j) → j + 5 ≤ n) → ((j s : ℕ) → j + s + 5 ≡ n → Q s ≡ P j)
      → (j s : ℕ) → j + s + 4 ≡ n → T (pair_at P j) → T (pair_at Q s)
  pair-back P Q fits same j s e t =
      let p = pair-elim P j t in
      let q : j ≡ p.i + 1 = p.next in
      let l : j + 5 ≤ n = fits j p.second in
      pair-intro Q (s - 1) s (omega arith)
      (along (sym (same j (s - 1) (omega arith))) p.second)
      (along (sym (same p.i s (omega arith))) p.first)

  over-back : (k j s : ℕ) → j + s + 4 ≡ n → T (over_at n o w k j) → T (over_at n o' w' k s)
  unfolding over_at
  over-back k = pair-back (holds n o w k) (holds n o' w' k) (λ j t. (held n o w k j t).fits) (holds-back k)

  open-back : (k j s : ℕ) → j + s + 4 ≡ n → T (open_at black n o w k j) → T (open_at black n o' w' k s)
  unfolding open_at no_stone
  open-back k j s e t =
      let u = and_left (pair_at (scores black n o w k) j) (not (o (j + 4)) && not (w (j + 4))) t in
      let z = and_right (pair_at (scores black n o w k) j) (not (o (j + 4)) && not (w (j + 4))) t in
      let p = pair-elim (scores black n o w k) j u in
      let q : j ≡ p.i + 1 = p.next in
      let a = scored black n o w k p.i p.first in
      let b = scored black n o w k j p.second in
      let own : o p.i ≡ o (p.i + 5) = ends o k p.i a.stones (ap (count o) (sym q) ∙ b.stones) in
      let last : o (p.i + 5) ≡ o (j + 4) = ap o (omega arith) in
      let none : o (j + 4) ≡ false = not-false (and_left (not (o (j + 4))) (not (w (j + 4))) z) in
      and_intro (pair_at (scores black n o' w' k) s) (not (o' (s + 4)) && not (w' (s + 4)))
      (pair-back (scores black n o w k) (scores black n o' w' k) (λ j t. (scored black n o w k j t).fits) (scores-back k) j s e u)
      (and_intro (not (o' (s + 4))) (not (w' (s + 4)))
      (false-not (mo.across p.i (s + 4) (omega arith) ∙ own ∙ last ∙ none))
      (false-not (mw.across p.i (s + 4) (omega arith) ∙ ap w (sym (add-zero p.i)) ∙ not-false
      (free-at w p.i 0 (omega arith) a.is_free))))

  score-back : (k j s : ℕ) → j + s + 5 ≡ n → T (scores black n o w k j) → T (scores black n o' w' k s)
  score-back k j s e t = along (sym (scores-back k j s e)) t

  -- a row of a kind at j stands, read backwards, at n − span − j
  pub row_back : (k : RowKind) (j s : ℕ) → j + s + span k ≡ n → T (row_at black n o w k j) → T (row_at black n o' w' k s)
  unfolding row_at
  row_back Two j s e t = open-back 2 j s e t
  row_back Three j s e t = open-back 3 j s e t
  row_back Straight j s e t = open-back 4 j s e t
  row_back Sword j s e t = score-back 3 j s e t
  row_back Four j s e t = score-back 4 j s e t
  row_back Five j s e t = score-back 5 j s e t
  row_back Overlining j s e t = over-back 4 j s e t
  row_back Overlined j s e t = over-back 5 j s e t

  -- and an eye at i stands at n − 1 − i
  pub eye-back : (k : RowKind) (j s i h : ℕ) → j + s + eye_span k ≡ n → i + h + 1 ≡ n → T (is_eye n o w k j i) → T (is_eye n o' w' k s h)
  unfolding is_eye empty_at no_stone
  eye-back k j s i h e e' t =
      let z = and_right (among (eye_span k) j i) (ltb i n && (not (o i) && not (w i))) t in
      and_intro (among (eye_span k) s h) (ltb h n && (not (o' h) && not (w' h)))
      (among-back (eye_span k) n j s i h e e' (and_left (among (eye_span k) j i) (ltb i n && (not (o i) && not (w i))) t))
      (and_intro (ltb h n) (not (o' h) && not (w' h)) (lt→ltb h n (omega arith))
      (along (sym (ap₂ (λ (x y : Bool). not x && not y) (mo.across i h e') (mw.across i h e')))
      (and_right (ltb i n) (not (o i) && not (w i)) z)))

-- THE LAW: a row stands at s of the one line exactly where it stands at j of the other
pub row-mirror : (black : Bool) (n : ℕ) (o w o' w' : Stones) → Mirror n o o' → Mirror n w w' → (k : RowKind) (j s : ℕ) → j + s + span k ≡ n
    → row_at black n o' w' k s ≡ row_at black n o w k j
row-mirror black n o w o' w' mo mw k j s e =
    both_ways (row_at black n o' w' k s) (row_at black n o w k j)
    (row_back black n o' w' o w (turn-round mo) (turn-round mw) k s j (omega arith))
    (row_back black n o w o' w' mo mw k j s e)
