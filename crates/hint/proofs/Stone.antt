-- The board, before and after a stone at an empty point: fives, Fours, and the points that complete a five. Assumes nothing.
use mathlib.Core.Path.{◌≡◌, refl, sym, subst, subst₂, ap, ◌∙◌, fun_ext}
use mathlib.Core.Logic.{◌⊎◌, inl, inr}
use mathlib.Core.Bool.{Bool, true, false, not, ◌&&◌, cond}
use mathlib.Core.List.{List}
use Prim.Native.Nat.{ℕ, ◌+◌, ◌-◌, ◌≤◌, ◌<◌}
use native.Mathlib.Omega.{arith}
use native.Mathlib.Decide.{ℕ_discrete}
use lib.Dec.{T, eqb, leb, ltb, eqb→eq, leb→le, ltb→lt, le→leb, lt→ltb}
use lib.ListN.{length, get_or, length-set}
use lib.Seq.{get_or-set_same, get_or-set_other}
use borrow.Author.Tests.{eq-eqb, ne_eqb}
use Rattle.rules.specs.Numbers.{colour_no, is_black, opponent_of}
use Rattle.rules.specs.Tools.{any_below}
use Rattle.rules.specs.Line.{Stones, scores, among, row_at, no_stone, empty_at, is_eye, eye_of_some}
use Rattle.rules.specs.Point.{line_no, cell_no, line_count, line_size, point_at}
use Rattle.rules.specs.Grid.{is_empty, put, stone_at, row_on, rows_through, four_eye}
use Rattle.rules.specs.Forbidden.{some_row}
use Rattle.rules.specs.Fives.{makes_five}
use Rattle.rules.specs.declared.Player.{Player}
use Rattle.rules.specs.declared.Player.TheVariants.{Black, White}
use Rattle.rules.specs.declared.RowKind.TheVariants.{Four, Five}
use Rattle.rules.proofs.Logic.{true-T, along, not-false, false-not, and_left, and_right, and_intro, and_same, any-elim, any-intro}
use Rattle.rules.proofs.Address.{line-here, point-here, size-le}
use Rattle.rules.proofs.Rows.{stone-here, row_on-inside}
use Rattle.rules.proofs.Changes.{stone-on, stone-off}
use Rattle.rules.proofs.More.{some_row-elim, some_row-intro, some_row-same}
use Rattle.rules.proofs.Windows.{free-at}
use Rattle.hint.specs.Hint.{has_five, completes, is_four_eye}
use Rattle.hint.proofs.OneLine.{Scored, scores-says, scores-back, scores-stay, scores-grown, scores-apart, four-gap}

-- ---- colours and empty cells

pub other-no : (r : Player) → eqb (colour_no r) (colour_no (opponent_of r)) ≡ false
other-no Black = refl
other-no White = refl

pub no_other : (r : Player) → eqb (colour_no (opponent_of r)) (colour_no r) ≡ false
no_other Black = refl
no_other White = refl

own-no : (r : Player) → eqb (colour_no r) (colour_no r) ≡ true
own-no Black = refl
own-no White = refl

-- an empty cell has no stone of either colour
pub empty-none : (r : Player) (v : ℕ) → T (is_empty v) → eqb v (colour_no r) ≡ false
empty-none Black v t = not-false (and_left (not (eqb v 1)) (not (eqb v 2)) t)
empty-none White v t = not-false (and_right (not (eqb v 1)) (not (eqb v 2)) t)

pub none-empty : (r : Player) (v : ℕ) → eqb v (colour_no r) ≡ false → eqb v (colour_no (opponent_of r)) ≡ false → T (is_empty v)
none-empty Black v a b = and_intro (not (eqb v 1)) (not (eqb v 2)) (false-not a) (false-not b)
none-empty White v a b = and_intro (not (eqb v 1)) (not (eqb v 2)) (false-not b) (false-not a)

stone-full : (r : Player) → T (is_empty (colour_no r)) → ⊥
stone-full Black t = t
stone-full White t = t

-- ---- the tests, by their witnesses

abbrev pub FiveAt : Player → List ℕ → Type 0
FiveAt r cells = (d i j : ℕ) × (d < 4) × (i < line_count d) × T (row_on r Five cells d i j)

pub five-elim : (r : Player) (cells : List ℕ) → T (has_five r cells) → FiveAt r cells
unfolding has_five
five-elim r cells t =
    let a = any-elim 4 (λ d. any_below (line_count d) (λ i. any_below 16 (λ j. row_on r Five cells d i j))) t in
    let b = any-elim (line_count a.0) (λ i. any_below 16 (λ j. row_on r Five cells a.0 i j)) a.2 in
    let c = any-elim 16 (λ j. row_on r Five cells a.0 b.0 j) b.2 in
    (a.0, b.0, c.0, a.1, b.1, c.2)

pub five-intro : (r : Player) (cells : List ℕ) → FiveAt r cells → T (has_five r cells)
unfolding has_five
five-intro r cells (d, i, j, hd, hi, t) =
    any-intro 4 (λ d. any_below (line_count d) (λ i. any_below 16 (λ j. row_on r Five cells d i j))) d hd
    (any-intro (line_count d) (λ i. any_below 16 (λ j. row_on r Five cells d i j)) i hi
    (any-intro 16 (λ j. row_on r Five cells d i j) j
    (let a = row_on-inside r Five cells d i j t in let b = size-le d i in omega arith) t))

pub record Completes (r : Player) (cells : List ℕ) (p : ℕ) : Type 0 where
  pub none : T (is_empty (get_or cells p 0))
  pub d : ℕ
  pub j : ℕ
  pub d-lt : d < 4
  pub four : T (rows_through r Four cells p d j)

-- a row of a single window, Four or Five, is a window's score
pub four-scores : (r : Player) (cells : List ℕ) (d i j : ℕ)
    → row_on r Four cells d i j ≡ scores (is_black r) (line_size d i) (stone_at r cells d i) (stone_at (opponent_of r) cells d i) 4 j
unfolding row_on row_at
four-scores r cells d i j = refl

five-scores : (r : Player) (cells : List ℕ) (d i j : ℕ)
    → row_on r Five cells d i j ≡ scores (is_black r) (line_size d i) (stone_at r cells d i) (stone_at (opponent_of r) cells d i) 5 j
unfolding row_on row_at
five-scores r cells d i j = refl

-- ---- a stone at an empty point, on a line

module _ (cells : List ℕ) (p : ℕ) (long : length cells ≡ 225) (hp : p < 225) (none : T (is_empty (get_or cells p 0))) where
  pub cell-none : (r : Player) (d : ℕ) → d < 4 → stone_at r cells d (line_no d p) (cell_no d p) ≡ false
  cell-none r d hd = stone-here r cells d p hd hp ∙ empty-none r (get_or cells p 0) none

  module _ (d i : ℕ) (hd : d < 4) (hi : i < line_count d) where
    -- on the line through it
    stones-by : (r s : Player) → line_no d p ≡ i → (j : ℕ)
        → stone_at r (put s cells p) d i j ≡ cond (eqb j (cell_no d p)) (eqb (colour_no s) (colour_no r)) (stone_at r cells d i j)
    stones-by r s on j = sym (stone-on r cells d i p (colour_no s) hd hi long hp on j)

    there-none : (r : Player) → line_no d p ≡ i → (j : ℕ) → j ≡ cell_no d p → stone_at r cells d i j ≡ false
    there-none r on j e = ap (stone_at r cells d i) e ∙ ap (λ (x : ℕ). stone_at r cells d x (cell_no d p)) (sym on) ∙ cell-none r d hd

    -- a stone of one colour leaves the other colour's stones
    left : (r s : Player) → eqb (colour_no s) (colour_no r) ≡ false → (j : ℕ) → stone_at r (put s cells p) d i j ≡ stone_at r cells d i j
    left r s differ j = go (ℕ_discrete (line_no d p) i) (ℕ_discrete j (cell_no d p))
      where
        go : Dec (line_no d p ≡ i) → Dec (j ≡ cell_no d p) → stone_at r (put s cells p) d i j ≡ stone_at r cells d i j
        go (no off) q = stone-off r cells d i p (colour_no s) hd hi off j
        go (yes on) (yes e) = stones-by r s on j ∙ rw (eq-eqb j (cell_no d p) e) (differ ∙ sym (there-none r on j e))
        go (yes on) (no e) = stones-by r s on j ∙ rw (ne_eqb j (cell_no d p) e)

    pub stones-left : (r s : Player) → eqb (colour_no s) (colour_no r) ≡ false → stone_at r (put s cells p) d i ≡ stone_at r cells d i
    stones-left r s differ = fun_ext (left r s differ)

    -- no stone is taken away
    pub stones-grow : (r s : Player) (j : ℕ) → T (stone_at r cells d i j) → T (stone_at r (put s cells p) d i j)
    stones-grow r s j t = go (ℕ_discrete (line_no d p) i) (ℕ_discrete j (cell_no d p))
      where
        go : Dec (line_no d p ≡ i) → Dec (j ≡ cell_no d p) → T (stone_at r (put s cells p) d i j)
        go (no off) q = along (sym (stone-off r cells d i p (colour_no s) hd hi off j)) t
        go (yes on) (yes e) = absurd (along (there-none r on j e) t)
        go (yes on) (no e) =
            let same : stone_at r (put s cells p) d i j ≡ stone_at r cells d i j = stones-by r s on j ∙ rw (ne_eqb j (cell_no d p) e) in
            along (sym same) t

    -- a stone of the other colour makes no row
    pub scores-before : (r s : Player) (n j : ℕ) → eqb (colour_no s) (colour_no r) ≡ false
        → T (scores (is_black r) (line_size d i) (stone_at r (put s cells p) d i) (stone_at (opponent_of r) (put s cells p) d i) n j)
        → T (scores (is_black r) (line_size d i) (stone_at r cells d i) (stone_at (opponent_of r) cells d i) n j)
    scores-before r s n j differ t =
        scores-back (is_black r) (line_size d i) (stone_at r cells d i) (stone_at (opponent_of r) cells d i)
        (stone_at (opponent_of r) (put s cells p) d i) (stones-grow (opponent_of r) s) n j
        (subst (λ (o : Stones). T (scores (is_black r) (line_size d i) o (stone_at (opponent_of r) (put s cells p) d i) n j))
        (stones-left r s differ) t)

    pub four-before : (r s : Player) (j : ℕ) → eqb (colour_no s) (colour_no r) ≡ false → T (row_on r Four (put s cells p) d i j)
        → T (row_on r Four cells d i j)
    four-before r s j differ t =
        along (sym (four-scores r cells d i j)) (scores-before r s 4 j differ (along (four-scores r (put s cells p) d i j) t))

    pub five-before : (r s : Player) (j : ℕ) → eqb (colour_no s) (colour_no r) ≡ false → T (row_on r Five (put s cells p) d i j)
        → T (row_on r Five cells d i j)
    five-before r s j differ t =
        along (sym (five-scores r cells d i j)) (scores-before r s 5 j differ (along (five-scores r (put s cells p) d i j) t))

  -- an own stone: on the line through it a window with the point scores one more, the others score what they did or die
  module _ (r : Player) (d : ℕ) (hd : d < 4) where
    pub own-there : stone_at r (put r cells p) d (line_no d p) (cell_no d p) ≡ true
    own-there =
        stones-by d (line_no d p) hd (line-here d p hd hp) r r refl (cell_no d p)
        ∙ rw (eq-eqb (cell_no d p) (cell_no d p) refl) (own-no r)

    pub own_same : (j : ℕ) → (j ≡ cell_no d p → ⊥) → stone_at r (put r cells p) d (line_no d p) j ≡ stone_at r cells d (line_no d p) j
    own_same j n = stones-by d (line_no d p) hd (line-here d p hd hp) r r refl j ∙ rw (ne_eqb j (cell_no d p) n)

    pub others : stone_at (opponent_of r) (put r cells p) d (line_no d p) ≡ stone_at (opponent_of r) cells d (line_no d p)
    others = stones-left d (line_no d p) hd (line-here d p hd hp) (opponent_of r) r (other-no r)

    -- a Four through the point becomes a Five, and a Five through it was a Four
    pub four-five : (j : ℕ) → j ≤ cell_no d p → cell_no d p < j + 5
        → row_on r Four cells d (line_no d p) j ≡ row_on r Five (put r cells p) d (line_no d p) j
    four-five j l h =
        four-scores r cells d (line_no d p) j
        ∙ scores-grown (is_black r) (line_size d (line_no d p)) (stone_at r cells d (line_no d p)) (stone_at r (put r cells p) d (line_no d p))
        (stone_at (opponent_of r) cells d (line_no d p)) (cell_no d p) (cell-none r d hd) own-there own_same 4 j l h
        ∙ ap (λ (o : Stones). scores (is_black r) (line_size d (line_no d p)) (stone_at r (put r cells p) d (line_no d p)) o 5 j) (sym others)
        ∙ sym (five-scores r (put r cells p) d (line_no d p) j)

    pub five-apart : (j : ℕ) → ((k : ℕ) → k < 5 → j + k ≡ cell_no d p → ⊥) → T (row_on r Five (put r cells p) d (line_no d p) j)
        → T (row_on r Five cells d (line_no d p) j)
    five-apart j off t =
        along (sym (five-scores r cells d (line_no d p) j))
        (scores-apart (is_black r) (line_size d (line_no d p)) (stone_at r cells d (line_no d p)) (stone_at r (put r cells p) d (line_no d p))
        (stone_at (opponent_of r) cells d (line_no d p)) (cell_no d p) (cell-none r d hd) own-there own_same 5 j off
        (along (ap (λ (o : Stones). scores (is_black r) (line_size d (line_no d p)) (stone_at r (put r cells p) d (line_no d p)) o 5 j) others)
        (along (five-scores r (put r cells p) d (line_no d p) j) t)))

-- ---- the board with one stone more

-- the cells of the row at start j hold the point, or none of them is it
pub within : (d j c : ℕ) → T (among 5 j c) → (j ≤ c) × (c < j + 5)
unfolding among
within d j c t = (leb→le j c (and_left (leb j c) (ltb c (j + 5)) t), ltb→lt c (j + 5) (and_right (leb j c) (ltb c (j + 5)) t))

pub in_window : (j c k : ℕ) → k < 5 → j + k ≡ c → T (among 5 j c)
unfolding among
in_window j c k hk e = and_intro (leb j c) (ltb c (j + 5)) (le→leb j c (omega arith)) (lt→ltb c (j + 5) (omega arith))

-- a point is empty that completes a five
pub completes-empty : (r : Player) (cells : List ℕ) (p : ℕ) → T (completes r cells p) → T (is_empty (get_or cells p 0))
unfolding completes
completes-empty r cells p t = and_left (is_empty (get_or cells p 0)) (makes_five r cells p) t

-- .. and a Four goes through it
pub completes-told : (r : Player) (cells : List ℕ) (p : ℕ) → length cells ≡ 225 → p < 225
    → completes r cells p ≡ (is_empty (get_or cells p 0) && some_row (rows_through r Four cells p))
unfolding completes makes_five rows_through
completes-told r cells p long hp =
    and_same (is_empty (get_or cells p 0)) (makes_five r cells p) (some_row (rows_through r Four cells p))
    (λ none. sym (some_row-same (rows_through r Four cells p) (rows_through r Five (put r cells p) p) (λ d j hd hj.
    and_same (among 5 j (cell_no d p)) (row_on r Four cells d (line_no d p) j) (row_on r Five (put r cells p) d (line_no d p) j)
    (λ a. let w = within d j (cell_no d p) a in four-five cells p long hp none r d hd j w.0 w.1))))

pub completes-elim : (r : Player) (cells : List ℕ) (p : ℕ) → length cells ≡ 225 → p < 225 → T (completes r cells p) → Completes r cells p
completes-elim r cells p long hp t =
    let u = along (completes-told r cells p long hp) t in
    let a = some_row-elim (rows_through r Four cells p)
    (and_right (is_empty (get_or cells p 0)) (some_row (rows_through r Four cells p)) u) in
    record {
      none = and_left (is_empty (get_or cells p 0)) (some_row (rows_through r Four cells p)) u;
      d = a.0;
      j = a.1;
      d-lt = a.2;
      four = a.4;
    }

pub completes-intro : (r : Player) (cells : List ℕ) (p : ℕ) → length cells ≡ 225 → p < 225 → Completes r cells p → T (completes r cells p)
unfolding rows_through
completes-intro r cells p long hp c =
    along (sym (completes-told r cells p long hp))
    (and_intro (is_empty (get_or cells p 0)) (some_row (rows_through r Four cells p)) c.none
    (some_row-intro (rows_through r Four cells p) c.d c.j c.d-lt
    (let a = row_on-inside r Four cells c.d (line_no c.d p) c.j
    (and_right (among 5 c.j (cell_no c.d p)) (row_on r Four cells c.d (line_no c.d p) c.j) c.four) in
    let b = size-le c.d (line_no c.d p) in omega arith) c.four))

module _ (cells : List ℕ) (p : ℕ) (long : length cells ≡ 225) (hp : p < 225) (none : T (is_empty (get_or cells p 0))) where
  through-four : (r : Player) (d j : ℕ) → T (among 5 j (cell_no d p)) → T (row_on r Four cells d (line_no d p) j)
      → T (rows_through r Four cells p d j)
  unfolding rows_through
  through-four r d j a t = and_intro (among 5 j (cell_no d p)) (row_on r Four cells d (line_no d p) j) a t

  four-through : (r : Player) (d j : ℕ) → T (rows_through r Four cells p d j)
      → T (among 5 j (cell_no d p)) × T (row_on r Four cells d (line_no d p) j)
  unfolding rows_through
  four-through r d j t = (
    and_left (among 5 j (cell_no d p)) (row_on r Four cells d (line_no d p) j) t,
    and_right (among 5 j (cell_no d p)) (row_on r Four cells d (line_no d p) j) t,
  )

  -- a stone that completes a five makes one
  pub completes-five : (r : Player) → T (completes r cells p) → T (has_five r (put r cells p))
  completes-five r t =
      let c = completes-elim r cells p long hp t in
      let f = four-through r c.d c.j c.four in
      let w = within c.d c.j (cell_no c.d p) f.0 in
      five-intro r (put r cells p) (
        c.d,
        line_no c.d p,
        c.j,
        c.d-lt,
        line-here c.d p c.d-lt hp,
        along (four-five cells p long hp none r c.d c.d-lt c.j w.0 w.1) f.1,
      )

  -- a five that stands after the stone stood before, or the stone completes it
  off-line : (r : Player) (d i j : ℕ) → d < 4 → i < line_count d → (line_no d p ≡ i → ⊥) → T (row_on r Five (put r cells p) d i j)
      → T (row_on r Five cells d i j)
  off-line r d i j hd hi off t =
      along (sym (five-scores r cells d i j))
      (subst₂ (λ (a b : Stones). T (scores (is_black r) (line_size d i) a b 5 j))
      (fun_ext (stone-off r cells d i p (colour_no r) hd hi off)) (fun_ext (stone-off (opponent_of r) cells d i p (colour_no r) hd hi off))
      (along (five-scores r (put r cells p) d i j) t))

  pub five-made : (r : Player) → T (has_five r (put r cells p)) → T (has_five r cells) ⊎ T (completes r cells p)
  five-made r t = at (five-elim r (put r cells p) t)
    where
      on_line : (d j : ℕ) → d < 4 → (b : Bool) → among 5 j (cell_no d p) ≡ b → T (row_on r Five (put r cells p) d (line_no d p) j)
          → T (has_five r cells) ⊎ T (completes r cells p)
      on_line d j hd true e t =
          let a : T (among 5 j (cell_no d p)) = true-T e in
          let w = within d j (cell_no d p) a in
          inr (completes-intro r cells p long hp
          (record {
            none = none;
            d = d;
            j = j;
            d-lt = hd;
            four = through-four r d j a (along (sym (four-five cells p long hp none r d hd j w.0 w.1)) t);
          }))
      on_line d j hd false e t =
          inl (five-intro r cells (
            d,
            line_no d p,
            j,
            hd,
            line-here d p hd hp,
            five-apart cells p long hp none r d hd j (λ k hk q. along e (in_window j (cell_no d p) k hk q)) t,
          ))

      by-line : (d i j : ℕ) → d < 4 → i < line_count d → T (row_on r Five (put r cells p) d i j) → Dec (line_no d p ≡ i)
          → T (has_five r cells) ⊎ T (completes r cells p)
      by-line d i j hd hi t (no off) = inl (five-intro r cells (d, i, j, hd, hi, off-line r d i j hd hi off t))
      by-line d i j hd hi t (yes on) =
          on_line d j hd (among 5 j (cell_no d p)) refl (subst (λ (x : ℕ). T (row_on r Five (put r cells p) d x j)) (sym on) t)

      at : FiveAt r (put r cells p) → T (has_five r cells) ⊎ T (completes r cells p)
      at f = by-line f.0 f.1 f.2 f.3 f.4 f.5 (ℕ_discrete (line_no f.0 p) f.1)

  -- a stone of the other colour makes no five, and no point that completes one
  pub no-five-by : (r s : Player) → eqb (colour_no s) (colour_no r) ≡ false → T (has_five r (put s cells p)) → T (has_five r cells)
  no-five-by r s differ t =
      let f = five-elim r (put s cells p) t in
      five-intro r cells
      (f.0, f.1, f.2, f.3, f.4, five-before cells p long hp none f.0 f.1 f.3 f.4 r s f.2 differ f.5)

  pub still-empty : (s : Player) (q : ℕ) → T (is_empty (get_or (put s cells p) q 0)) → T (is_empty (get_or cells q 0))
  still-empty s q t = go (ℕ_discrete q p)
    where
      go : Dec (q ≡ p) → T (is_empty (get_or cells q 0))
      go (yes e) =
          absurd (stone-full s (subst (λ (v : ℕ). T (is_empty v))
          (ap (λ (x : ℕ). get_or (put s cells p) x 0) e ∙ get_or-set_same cells p (colour_no s) 0 (omega arith)) t))
      go (no e) = subst (λ (v : ℕ). T (is_empty v)) (get_or-set_other cells p q (colour_no s) 0 e) t

  pub no-completing-by : (r s : Player) → eqb (colour_no s) (colour_no r) ≡ false → (q : ℕ) → q < 225
      → T (completes r (put s cells p) q) → T (completes r cells q)
  unfolding rows_through
  no-completing-by r s differ q hq t =
      let c = completes-elim r (put s cells p) q (length-set cells p (colour_no s) ∙ long) hq t in
      let a = among 5 c.j (cell_no c.d q) in
      let f = row_on r Four (put s cells p) c.d (line_no c.d q) c.j in
      completes-intro r cells q long hq
      (record {
        none = still-empty s q c.none;
        d = c.d;
        j = c.j;
        d-lt = c.d-lt;
        four = and_intro a (row_on r Four cells c.d (line_no c.d q) c.j) (and_left a f c.four)
            (four-before cells p long hp none c.d (line_no c.d q) c.d-lt (line-here c.d q c.d-lt hq) r s c.j differ
            (and_right a f c.four));
      })

-- ---- an eye of a Four

pub record EyeAt (r : Player) (cells : List ℕ) (e : ℕ) : Type 0 where
  pub d : ℕ
  pub j : ℕ
  pub d-lt : d < 4
  pub four : T (row_on r Four cells d (line_no d e) j)
  pub inside : T (among 5 j (cell_no d e))
  pub none : T (no_stone (stone_at r cells d (line_no d e)) (stone_at (opponent_of r) cells d (line_no d e)) (cell_no d e))

pub eye-elim : (r : Player) (cells : List ℕ) (p e : ℕ) → T (is_four_eye r cells p e) → EyeAt r cells e
unfolding is_four_eye four_eye eye_of_some rows_through is_eye empty_at
eye-elim r cells p e t =
    let a = any-elim 4 (λ d. eqb (line_no d e) (line_no d p) && four_eye r cells p d (cell_no d e)) t in
    let d = a.0 in
    let i = line_no d p in
    let own = stone_at r cells d i in
    let other = stone_at (opponent_of r) cells d i in
    let c = cell_no d e in
    let on : line_no d e ≡ i = eqb→eq (line_no d e) i (and_left (eqb (line_no d e) i) (four_eye r cells p d c) a.2) in
    let b = any-elim 16 (λ j. rows_through r Four cells p d j && is_eye (line_size d i) own other Four j c)
    (and_right (eqb (line_no d e) i) (four_eye r cells p d c) a.2) in
    let j = b.0 in
    let row = and_left (rows_through r Four cells p d j) (is_eye (line_size d i) own other Four j c) b.2 in
    let eye = and_right (rows_through r Four cells p d j) (is_eye (line_size d i) own other Four j c) b.2 in
    record {
      d = d;
      j = j;
      d-lt = a.1;
      four = subst (λ (x : ℕ). T (row_on r Four cells d x j)) (sym on) (and_right (among 5 j (cell_no d p)) (row_on r Four cells d i j) row);
      inside = and_left (among 5 j c) (ltb c (line_size d i) && no_stone own other c) eye;
      none = subst (λ (x : ℕ). T (no_stone (stone_at r cells d x) (stone_at (opponent_of r) cells d x) c)) (sym on)
          (and_right (ltb c (line_size d i)) (no_stone own other c) (and_right (among 5 j c) (ltb c (line_size d i) && no_stone own other c) eye));
    }

module _ (r : Player) (cells : List ℕ) (e : ℕ) (long : length cells ≡ 225) (he : e < 225) (eye : EyeAt r cells e) where
  eye-own : stone_at r cells eye.d (line_no eye.d e) (cell_no eye.d e) ≡ false
  unfolding no_stone
  eye-own =
      not-false (and_left (not (stone_at r cells eye.d (line_no eye.d e) (cell_no eye.d e)))
      (not (stone_at (opponent_of r) cells eye.d (line_no eye.d e) (cell_no eye.d e))) eye.none)

  eye-other : stone_at (opponent_of r) cells eye.d (line_no eye.d e) (cell_no eye.d e) ≡ false
  unfolding no_stone
  eye-other =
      not-false (and_right (not (stone_at r cells eye.d (line_no eye.d e) (cell_no eye.d e)))
      (not (stone_at (opponent_of r) cells eye.d (line_no eye.d e) (cell_no eye.d e))) eye.none)

  pub eye-empty : T (is_empty (get_or cells e 0))
  eye-empty =
      none-empty r (get_or cells e 0) (sym (stone-here r cells eye.d e eye.d-lt he) ∙ eye-own)
      (sym (stone-here (opponent_of r) cells eye.d e eye.d-lt he) ∙ eye-other)

  -- "a Four's eye completes a five"
  pub eye-completes : T (completes r cells e)
  unfolding rows_through
  eye-completes =
      completes-intro r cells e long he
      (record {
        none = eye-empty;
        d = eye.d;
        j = eye.j;
        d-lt = eye.d-lt;
        four = and_intro (among 5 eye.j (cell_no eye.d e)) (row_on r Four cells eye.d (line_no eye.d e) eye.j) eye.inside
            eye.four;
      })

  -- a reply elsewhere leaves the Four standing
  module _ (q : ℕ) (hq : q < 225) (none : T (is_empty (get_or cells q 0))) (off : q ≡ e → ⊥) where
    clear : (k : ℕ) → k < 5 → T (not (stone_at (opponent_of r) (put (opponent_of r) cells q) eye.d (line_no eye.d e) (eye.j + k)))
    clear k hk = go (ℕ_discrete (line_no d q) i) (ℕ_discrete (j + k) (cell_no d q))
      where
        d : ℕ
        d = eye.d

        i : ℕ
        i = line_no d e

        j : ℕ
        j = eye.j

        hi : i < line_count d
        hi = line-here d e eye.d-lt he

        s : Scored (is_black r) (line_size d i) (stone_at r cells d i) (stone_at (opponent_of r) cells d i) 4 j
        s = scores-says (is_black r) (line_size d i) (stone_at r cells d i) (stone_at (opponent_of r) cells d i) 4 j
            (along (four-scores r cells d i j) eye.four)

        was : T (not (stone_at (opponent_of r) cells d i (j + k)))
        was = free-at (stone_at (opponent_of r) cells d i) j k hk s.is_free

        -- the reply would stand in the one gap, and that is the eye
        gap : line_no d q ≡ i → j + k ≡ cell_no d q → ⊥
        gap on here =
            let w = within d j (cell_no d e) eye.inside in
            let m = cell_no d e - j in
            let there : j + m ≡ cell_no d e = omega arith in
            let same : k ≡ m =
            four-gap (stone_at r cells d i) j k m hk (omega arith) s.stones
            (false-not (there-none cells q long hq none d i eye.d-lt hi r on (j + k) here))
            (false-not (ap (stone_at r cells d i) there ∙ eye-own)) in
            let cell : cell_no d q ≡ cell_no d e = omega arith in
            off (sym (point-here d q eye.d-lt hq) ∙ ap (λ (x : ℕ). point_at d x (cell_no d q)) on ∙ ap (point_at d i) cell
            ∙ point-here d e eye.d-lt he)

        go : Dec (line_no d q ≡ i) → Dec (j + k ≡ cell_no d q) → T (not (stone_at (opponent_of r) (put (opponent_of r) cells q) d i (j + k)))
        go (no out) x =
            subst (λ (b : Bool). T (not b)) (sym (stone-off (opponent_of r) cells d i q (colour_no (opponent_of r)) eye.d-lt hi out (j + k)))
            was
        go (yes on) (yes here) = absurd (gap on here)
        go (yes on) (no x) =
            let same : stone_at (opponent_of r) (put (opponent_of r) cells q) d i (j + k) ≡ stone_at (opponent_of r) cells d i (j + k) =
            stones-by cells q long hq none d i eye.d-lt hi (opponent_of r) (opponent_of r) on (j + k)
            ∙ rw (ne_eqb (j + k) (cell_no d q) x) in
            subst (λ (b : Bool). T (not b)) (sym same) was

    pub stands : T (completes r (put (opponent_of r) cells q) e)
    unfolding rows_through
    stands =
        let d = eye.d in
        let i = line_no d e in
        let hi = line-here d e eye.d-lt he in
        completes-intro r (put (opponent_of r) cells q) e (length-set cells q (colour_no (opponent_of r)) ∙ long) he
        (record {
          none = subst (λ (v : ℕ). T (is_empty v)) (sym (get_or-set_other cells q e (colour_no (opponent_of r)) 0 (λ x. off (sym x)))) eye-empty;
          d = d;
          j = eye.j;
          d-lt = eye.d-lt;
          four = and_intro (among 5 eye.j (cell_no d e)) (row_on r Four (put (opponent_of r) cells q) d i eye.j) eye.inside
              (along (sym (four-scores r (put (opponent_of r) cells q) d i eye.j))
              (subst (λ (o : Stones). T (scores (is_black r) (line_size d i) o (stone_at (opponent_of r) (put (opponent_of r) cells q) d i) 4 eye.j))
              (sym (stones-left cells q long hq none d i eye.d-lt hi r (opponent_of r) (no_other r)))
              (scores-stay (is_black r) (line_size d i) (stone_at r cells d i) (stone_at (opponent_of r) cells d i)
              (stone_at (opponent_of r) (put (opponent_of r) cells q) d i) 4 eye.j clear
              (along (four-scores r cells d i eye.j) eye.four))));
        })
