-- A stone more at an empty point: a Two through it becomes a Three, a Four becomes a Five, and no other Three or Five goes through it, for
-- either player. Assumes nothing.
use mathlib.Core.Path.{◌≡◌, refl, sym, ap, ap₂, ◌∙◌, fun_ext}
use mathlib.Core.Bool.{Bool, true, false, not, ◌&&◌, ◌||◌, cond}
use mathlib.Core.List.{List}
use Prim.Native.Nat.{ℕ, zero, suc, ◌+◌, ◌-◌, ◌≤◌, ◌<◌}
use native.Mathlib.Nat.{add-zero}
use native.Mathlib.Numerals.{add-one}
use native.Mathlib.Omega.{arith}
use native.Mathlib.Decide.{ℕ_discrete}
use lib.Dec.{T, eqb, leb, ltb, eqb-suc-suc, eqb→eq, leb→le, ltb→lt}
use lib.ListN.{length, get_or}
use borrow.Author.Tests.{eq-eqb, ne_eqb}
use Rattle.rules.specs.Numbers.{colour_no, is_black, opponent_of}
use Rattle.rules.specs.Tools.{all_below}
use Rattle.rules.specs.Bit.{digit}
use Rattle.rules.specs.Line.{Stones, inside, free, count, beside, dead, scores, pair_at, no_stone, open_at, row_at, span, among}
use Rattle.rules.specs.Point.{line_no, cell_no, line_size}
use Rattle.rules.specs.Grid.{put, stone_at, row_on, start_masks, rows_through}
use Rattle.rules.specs.Forbidden.{with_black}
use Rattle.rules.specs.declared.Player.{Player}
use Rattle.rules.specs.declared.Player.TheVariants.{Black, White}
use Rattle.rules.specs.declared.RowKind.{RowKind}
use Rattle.rules.specs.declared.RowKind.TheVariants.{Two, Three, Four, Five}
use Rattle.rules.proofs.Logic.{true-T, and_left, and_right, and_same, both_ways, all-elim}
use Rattle.rules.proofs.Address.{line-here}
use Rattle.rules.proofs.Rows.{stone-here}
use Rattle.rules.proofs.Changes.{stone-on}
use Rattle.rules.proofs.Starts.{masks-same}

-- ---- cell c is one of a window's five, once

hit_of : ℕ → ℕ → ℕ → ℕ
hit_of i c a = digit (eqb (i + a) c)

one_hit : (i c : ℕ) → i ≤ c → c < i + 5 → hit_of i c 0 + hit_of i c 1 + hit_of i c 2 + hit_of i c 3 + hit_of i c 4 ≡ 1
unfolding hit_of all_below
one_hit i c l h =
    simp moved (eqb→eq (hits (c - i)) 1 (all-elim 5 (λ k. eqb (hits k) 1) tt (c - i) (omega arith)))
  where
    hits : ℕ → ℕ
    hits k = digit (eqb 0 k) + digit (eqb 1 k) + digit (eqb 2 k) + digit (eqb 3 k) + digit (eqb 4 k)

    moved : (a : ℕ) → eqb (i + a) c ≡ eqb a (c - i)
    moved a =
        both_ways (eqb (i + a) c) (eqb a (c - i))
        (λ t. let e : i + a ≡ c = eqb→eq (i + a) c t in true-T (eq-eqb a (c - i) (omega arith)))
        (λ t. let e : a ≡ c - i = eqb→eq a (c - i) t in true-T (eq-eqb (i + a) c (omega arith)))

-- ---- one line, before and after a stone more at cell c

module _ (black : Bool) (size : ℕ) (own own' other : Stones) (c : ℕ) (empty : own c ≡ false) (stone : own' c ≡ true)
    (same : (i : ℕ) → (i ≡ c → ⊥) → own' i ≡ own i) where
  cell-grown : (i : ℕ) → digit (own' i) ≡ digit (own i) + digit (eqb i c)
  cell-grown i = go (ℕ_discrete i c)
    where
      go : Dec (i ≡ c) → digit (own' i) ≡ digit (own i) + digit (eqb i c)
      go (yes e) = rw (eq-eqb i c e, ap own' e ∙ stone, ap own e ∙ empty)
      go (no n) = rw (ne_eqb i c n, same i n) (omega arith)

  -- a window with the cell holds one stone more
  count-grown : (i : ℕ) → i ≤ c → c < i + 5 → count own' i ≡ count own i + 1
  unfolding count hit_of
  count-grown i l h =
      let first : digit (eqb (i + 0) c) ≡ digit (eqb i c) = ap (λ (x : ℕ). digit (eqb x c)) (add-zero i) in
      let one = one_hit i c l h in
      omega (arith, cell-grown i, cell-grown (i + 1), cell-grown (i + 2), cell-grown (i + 3), cell-grown (i + 4))

  -- the cells beside it are as before
  beside-grown : (i : ℕ) → i ≤ c → c < i + 5 → beside own' i ≡ beside own i
  unfolding beside
  beside-grown zero l h = same (0 + 5) (λ q. omega arith)
  beside-grown (suc i) l h =
      ap₂ (λ (a b : Bool). leb 1 (suc i) && a || b) (same (suc i - 1) (λ q. omega arith)) (same (suc i + 5) (λ q. omega arith))

  -- so it scores one more
  scores-grown : (n i : ℕ) → i ≤ c → c < i + 5 → scores black size own other n i ≡ scores black size own' other (suc n) i
  unfolding scores dead
  scores-grown n i l h =
      ap₂ (λ (b q : Bool). inside size i && not (not (free other i) || black && b) && q) (sym (beside-grown i l h))
      (sym (ap (λ (k : ℕ). eqb k (suc n)) (count-grown i l h ∙ add-one (count own i)) ∙ eqb-suc-suc (count own i) n))

  -- the cell is one of the four that both windows of a Two or a Three share
  two-grown : (j : ℕ) → j ≤ c → c < j + 4 → row_at black size own other Two j ≡ row_at black size own' other Three j
  unfolding row_at open_at no_stone pair_at
  two-grown j l h =
      ap₂ (λ (a b : Bool). a && (not b && not (other (j + 4)))) (pair j l h) (sym (same (j + 4) (λ q. omega arith)))
    where
      pair : (j : ℕ) → j ≤ c → c < j + 4 → pair_at (scores black size own other 2) j ≡ pair_at (scores black size own' other 3) j
      pair zero l h = refl
      pair (suc j) l h =
          ap₂ (λ (a b : Bool). leb 1 (suc j) && a && b) (scores-grown 2 (suc j - 1) (omega arith) (omega arith))
          (scores-grown 2 (suc j) l (omega arith))

  -- .. or of the five of a Four's window
  four-grown : (j : ℕ) → j ≤ c → c < j + 5 → row_at black size own other Four j ≡ row_at black size own' other Five j
  unfolding row_at
  four-grown j l h = scores-grown 4 j l h

-- ---- the line through p in direction d, on the board with the player's stone there

module _ (r : Player) (cells : List ℕ) (p d : ℕ) (long : length cells ≡ 225) (hp : p < 225) (hd : d < 4) (none : get_or cells p 0 ≡ 0) where
  cell-empty : (who : Player) → stone_at who cells d (line_no d p) (cell_no d p) ≡ false
  cell-empty who = stone-here who cells d p hd hp ∙ ap (λ (x : ℕ). eqb x (colour_no who)) none ∙ no-colour who
    where
      no-colour : (who : Player) → eqb 0 (colour_no who) ≡ false
      no-colour Black = refl
      no-colour White = refl

  stones : (who : Player) (j : ℕ)
      → stone_at who (put r cells p) d (line_no d p) j
      ≡ cond (eqb j (cell_no d p)) (eqb (colour_no r) (colour_no who)) (stone_at who cells d (line_no d p) j)
  stones who j = sym (stone-on who cells d (line_no d p) p (colour_no r) hd (line-here d p hd hp) long hp refl j)

  other-same : stone_at (opponent_of r) (put r cells p) d (line_no d p) ≡ stone_at (opponent_of r) cells d (line_no d p)
  other-same = fun_ext (λ j. stones (opponent_of r) j ∙ go j (ℕ_discrete j (cell_no d p)))
    where
      not_own : (r : Player) → eqb (colour_no r) (colour_no (opponent_of r)) ≡ false
      not_own Black = refl
      not_own White = refl

      go : (j : ℕ) → Dec (j ≡ cell_no d p)
          → cond (eqb j (cell_no d p)) (eqb (colour_no r) (colour_no (opponent_of r))) (stone_at (opponent_of r) cells d (line_no d p) j)
          ≡ stone_at (opponent_of r) cells d (line_no d p) j
      go j (yes e) =
          rw (eq-eqb j (cell_no d p) e)
          (not_own r ∙ sym (ap (stone_at (opponent_of r) cells d (line_no d p)) e ∙ cell-empty (opponent_of r)))
      go j (no n) = rw (ne_eqb j (cell_no d p) n)

  own-there : stone_at r (put r cells p) d (line_no d p) (cell_no d p) ≡ true
  own-there = stones r (cell_no d p) ∙ rw (eq-eqb (cell_no d p) (cell_no d p) refl) (eq-eqb (colour_no r) (colour_no r) refl)

  own_same : (j : ℕ) → (j ≡ cell_no d p → ⊥) → stone_at r (put r cells p) d (line_no d p) j ≡ stone_at r cells d (line_no d p) j
  own_same j n = stones r j ∙ rw (ne_eqb j (cell_no d p) n)

  -- rows of the kind k become rows of the kind k', of as many cells, where they do on every such line
  module _ (k k' : RowKind) (wide : span k' ≡ span k)
      (grown : (j : ℕ) → j ≤ cell_no d p → cell_no d p < j + span k
      → row_at (is_black r) (line_size d (line_no d p)) (stone_at r cells d (line_no d p)) (stone_at (opponent_of r) cells d (line_no d p)) k j
      ≡ row_at (is_black r) (line_size d (line_no d p)) (stone_at r (put r cells p) d (line_no d p))
      (stone_at (opponent_of r) cells d (line_no d p)) k' j) where
    row-through : (j : ℕ) → T (among (span k) j (cell_no d p))
        → row_on r k cells d (line_no d p) j ≡ row_on r k' (put r cells p) d (line_no d p) j
    unfolding among row_on
    row-through j t =
        let l : j ≤ cell_no d p = leb→le j (cell_no d p) (and_left (leb j (cell_no d p)) (ltb (cell_no d p) (j + span k)) t) in
        let h : cell_no d p < j + span k =
        ltb→lt (cell_no d p) (j + span k) (and_right (leb j (cell_no d p)) (ltb (cell_no d p) (j + span k)) t) in
        grown j l h
        ∙ ap (λ (w : Stones). row_at (is_black r) (line_size d (line_no d p)) (stone_at r (put r cells p) d (line_no d p)) w k' j)
        (sym other-same)

    through-grown : (j : ℕ) → rows_through r k cells p d j ≡ rows_through r k' (put r cells p) p d j
    unfolding rows_through
    through-grown j =
        and_same (among (span k) j (cell_no d p)) (row_on r k cells d (line_no d p) j) (row_on r k' (put r cells p) d (line_no d p) j)
        (row-through j)
        ∙ ap (λ (w : ℕ). among w j (cell_no d p) && row_on r k' (put r cells p) d (line_no d p) j) (sym wide)

  pub two-three : (j : ℕ) → rows_through r Two cells p d j ≡ rows_through r Three (put r cells p) p d j
  two-three =
      through-grown Two Three refl
      (two-grown (is_black r) (line_size d (line_no d p)) (stone_at r cells d (line_no d p)) (stone_at r (put r cells p) d (line_no d p))
      (stone_at (opponent_of r) cells d (line_no d p)) (cell_no d p) (cell-empty r) own-there own_same)

  pub four-five : (j : ℕ) → rows_through r Four cells p d j ≡ rows_through r Five (put r cells p) p d j
  four-five =
      through-grown Four Five refl
      (four-grown (is_black r) (line_size d (line_no d p)) (stone_at r cells d (line_no d p)) (stone_at r (put r cells p) d (line_no d p))
      (stone_at (opponent_of r) cells d (line_no d p)) (cell_no d p) (cell-empty r) own-there own_same)

-- so the start masks of the Twos are those of the Threes that the stone makes of them
pub twos-grown : (cells : List ℕ) (p : ℕ) → length cells ≡ 225 → p < 225 → get_or cells p 0 ≡ 0
    → start_masks (rows_through Black Two cells p) ≡ start_masks (rows_through Black Three (with_black cells p) p)
twos-grown cells p long hp none =
    masks-same (rows_through Black Two cells p) (rows_through Black Three (with_black cells p) p)
    (λ d j hd. two-three Black cells p d long hp hd none j)
