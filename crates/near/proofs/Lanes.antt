-- The rows of the 64 places are the rows of the four lines: no window reaches from one line into the next, since each line is followed by a
-- place that is blocked and has no stone. Assumes nothing.
use mathlib.Core.Path.{◌≡◌, refl, sym, ap, ap₂, ◌∙◌}
use mathlib.Core.Logic.{◌⊎◌, inl, inr}
use mathlib.Core.Bool.{Bool, true, false, not, ◌&&◌, ◌||◌, and-false}
use mathlib.Core.List.{List}
use Prim.Native.Nat.{ℕ, zero, suc, ◌+◌, ◌-◌, ◌*◌, ◌^◌, ◌≤◌, ◌<◌}
use native.Mathlib.Omega.{arith}
use lib.Dec.{T, leb, ltb, eqb}
use lib.ListN.{get_or}
use lib.Bits.{bit_and, bit_or}
use borrow.Author.Tests.{le-leb, lt-leb, le-ltb, leb-true, leb-false}
use Rattle.rules.specs.Tools.{any_below, tab}
use Rattle.rules.specs.Bit.{bit, mask_of}
use Rattle.rules.specs.Line.{Stones, inside, free, count, beside, dead, scores, holds, open_at, over_at, row_at, span, through}
use Rattle.rules.specs.Point.{line_no, cell_no, line_size}
use Rattle.rules.specs.Grid.{start_masks, starts_of}
use Rattle.rules.specs.Forbidden.{some_row, more_than_one}
use Rattle.rules.specs.declared.RowKind.{RowKind}
use Rattle.rules.specs.declared.RowKind.TheVariants.{Two, Sword, Four, Overlining}
use Rattle.rules.proofs.Logic.{decide, not-intro, not-elim, not-false, and_left, and_right, and_same, and-flip, not-leb}
use Rattle.rules.proofs.Tables.{table2}
use Rattle.rules.proofs.Bits.{bit-and, bit_mask, mask-and, mask-or, mask-not, mask-cong}
use Rattle.rules.proofs.Lists.{tab-cong}
use Rattle.rules.proofs.Address.{size-le}
use Rattle.rules.proofs.Windows.{Window, scored, free-at, row_inside, span-le}
use Rattle.masks.proofs.Windows.{open-bit, over-bit}
use Rattle.near.specs.Places.{place_in, past_end, spot_at, reaching}
use Rattle.near.specs.Windows.{alive_with, free_with, pair_in}
use Rattle.near.specs.Rows.{stones_shown, seen, RowsAre, may_apply}
use Rattle.near.specs.declared.rows.Rows.{Rows}
use Rattle.near.proofs.Places.{reach-place}
use Rattle.rules.proofs.Numbered.{in-line, in_cell}
use Rattle.rules.proofs.Starts.{some-masks, more-masks}

-- four lines of at most 15 cells, laid out in two words: the own stones, and what is blocked
pub record Laid (size : ℕ → ℕ) (own other : ℕ → Stones) (mine blocked : Stones) : Type 0 where
  small : (d : ℕ) → size d ≤ 15
  mine-at : (d j : ℕ) → d < 4 → j < 16 → mine (16 * d + j) ≡ own d j
  block_at : (d j : ℕ) → d < 4 → j < 16 → blocked (16 * d + j) ≡ (leb (size d) j || other d j)
  own_in : (d j : ℕ) → size d ≤ j → own d j ≡ false

module _ (size : ℕ → ℕ) (own other : ℕ → Stones) (mine blocked : Stones) (laid : Laid size own other mine blocked) where
  -- ---- one window, at place 16d + j

  module _ (d : ℕ) (hd : d < 4) where
    cell-mine : (k i : ℕ) → k ≡ 16 * d + i → i < 16 → mine k ≡ own d i
    cell-mine k i e h = ap mine e ∙ laid.mine-at d i hd h

    cell_free : (k i : ℕ) → k ≡ 16 * d + i → i < size d → blocked k ≡ other d i
    cell_free k i e h =
        let s = laid.small d in
        ap blocked e ∙ laid.block_at d i hd (omega arith) ∙ ap (λ (b : Bool). b || other d i) (lt-leb (size d) i h)

    cell-past : (k i : ℕ) → k ≡ 16 * d + i → size d ≤ i → i < 16 → blocked k ≡ true
    cell-past k i e h l = ap blocked e ∙ laid.block_at d i hd l ∙ ap (λ (b : Bool). b || other d i) (le-leb (size d) i h)

    -- the place before a line's first cell is past the end of the line before it
    first-mine : (k : ℕ) → k ≡ 16 * d → (leb 1 k && mine (k - 1)) ≡ false
    first-mine k e = go d hd e
      where
        go : (d : ℕ) → d < 4 → k ≡ 16 * d → (leb 1 k && mine (k - 1)) ≡ false
        go zero h e = ap (λ (b : Bool). b && mine (k - 1)) (lt-leb 1 k (omega arith))
        go (suc d) h e =
            ap (λ (b : Bool). leb 1 k && b)
            (ap mine (before d e) ∙ laid.mine-at d 15 (omega arith) (omega arith) ∙ laid.own_in d 15 (laid.small d))
            ∙ and-false (leb 1 k)
          where
            before : (d : ℕ) → k ≡ 16 * suc d → k - 1 ≡ 16 * d + 15
            before d e = omega arith

    module _ (j : ℕ) (hj : j < 16) where
      abbrev k : ℕ
      k = 16 * d + j

      free_off : size d < j + 5 → free blocked k ≡ false
      free_off h = at (decide (leb (size d) j))
        where
          none : (i : ℕ) → i < 5 → blocked (k + i) ≡ true → free blocked k ≡ false
          none i l e =
              not-false (not-intro (free blocked k) (λ t. not-elim (blocked (k + i)) (free-at blocked k i l t) (true-at e)))
            where
              true-at : blocked (k + i) ≡ true → T (blocked (k + i))
              true-at e = rw e tt

          at : (leb (size d) j ≡ true) ⊎ (leb (size d) j ≡ false) → free blocked k ≡ false
          at (inl e) = none 0 (omega arith) (cell-past (k + 0) j (omega arith) (leb-true (size d) j e) hj)
          at (inr e) =
              let l = leb-false (size d) j e in
              let s = laid.small d in
              none (size d - j) (omega arith) (cell-past (k + (size d - j)) (size d) (omega arith) (omega arith) (omega arith))

      free-same : free blocked k ≡ (inside (size d) j && free (other d) j)
      unfolding inside free
      free-same = at (decide (leb (j + 5) (size d)))
        where
          on : j + 5 ≤ size d → free blocked k ≡ free (other d) j
          on h =
              rw (
                cell_free k j (omega arith) (omega arith),
                cell_free (k + 1) (j + 1) (omega arith) (omega arith),
                cell_free (k + 2) (j + 2) (omega arith) (omega arith),
                cell_free (k + 3) (j + 3) (omega arith) (omega arith),
                cell_free (k + 4) (j + 4) (omega arith) (omega arith),
              )
              refl

          at : (leb (j + 5) (size d) ≡ true) ⊎ (leb (j + 5) (size d) ≡ false) → free blocked k ≡ (leb (j + 5) (size d) && free (other d) j)
          at (inl e) = on (leb-true (j + 5) (size d) e) ∙ sym (ap (λ (b : Bool). b && free (other d) j) e)
          at (inr e) = free_off (leb-false (j + 5) (size d) e) ∙ sym (ap (λ (b : Bool). b && free (other d) j) e)

      module _ (h : j + 5 ≤ size d) where
        fits : j + 5 ≤ 15
        fits = let s = laid.small d in omega arith

        count_same : count mine k ≡ count (own d) j
        unfolding count
        count_same =
            let f = fits in
            rw (
              cell-mine k j (omega arith) (omega arith),
              cell-mine (k + 1) (j + 1) (omega arith) (omega arith),
              cell-mine (k + 2) (j + 2) (omega arith) (omega arith),
              cell-mine (k + 3) (j + 3) (omega arith) (omega arith),
              cell-mine (k + 4) (j + 4) (omega arith) (omega arith),
            )
            refl

        beside_same : beside mine k ≡ beside (own d) j
        unfolding beside
        beside_same =
            let f = fits in
            ap₂ (λ (a b : Bool). a || b) (before j hj refl) (cell-mine (k + 5) (j + 5) (omega arith) (omega arith))
          where
            before : (i : ℕ) → i < 16 → i ≡ j → (leb 1 k && mine (k - 1)) ≡ (leb 1 i && own d (i - 1))
            before zero l e = first-mine k (omega arith)
            before (suc i) l e =
                ap₂ (λ (a b : Bool). a && b) (le-leb 1 k (omega arith) ∙ sym (le-leb 1 (suc i) (omega arith)))
                (cell-mine (k - 1) i (omega arith) (omega arith) ∙ ap (own d) (omega arith))

      scores-same : (black : Bool) (n : ℕ) → alive_with black mine blocked n k ≡ scores black (size d) (own d) (other d) n j
      unfolding alive_with scores dead inside
      scores-same black n = at (decide (leb (j + 5) (size d)))
        where
          at : (leb (j + 5) (size d) ≡ true) ⊎ (leb (j + 5) (size d) ≡ false)
              → (not (not (free blocked k) || black && beside mine k) && eqb (count mine k) n)
              ≡ (leb (j + 5) (size d) && not (not (free (other d) j) || black && beside (own d) j) && eqb (count (own d) j) n)
          at (inl e) =
              let h = leb-true (j + 5) (size d) e in
              rw (free-same, count_same h, beside_same h, e) refl
          at (inr e) = rw (free_off (leb-false (j + 5) (size d) e), e) refl

      holds_same : (n : ℕ) → free_with mine blocked n k ≡ holds (size d) (own d) (other d) n j
      unfolding free_with holds inside
      holds_same n = at (decide (leb (j + 5) (size d)))
        where
          at : (leb (j + 5) (size d) ≡ true) ⊎ (leb (j + 5) (size d) ≡ false)
              → (free blocked k && eqb (count mine k) n) ≡ (leb (j + 5) (size d) && free (other d) j && eqb (count (own d) j) n)
          at (inl e) = rw (free-same, count_same (leb-true (j + 5) (size d) e), e) refl
          at (inr e) = rw (free_off (leb-false (j + 5) (size d) e), e) refl

  -- ---- two windows: those of a mask of tests that fail at a line's last place

  pair_same : (f : ℕ → Bool) (g : ℕ → ℕ → Bool) (m d j : ℕ) → d < 4 → j < 16 → m ≡ mask_of 64 f
      → ((d j : ℕ) → d < 4 → j < 16 → f (16 * d + j) ≡ g d j) → ((d : ℕ) → g d 15 ≡ false)
      → pair_in m (16 * d + j) ≡ (g d j && (leb 1 j && g d (j - 1)))
  pair_same f g m d j hd hj e same last =
      ap₂ (λ (a b : Bool). a && b) (at (16 * d + j) d j refl hd hj) (before d hd j hj)
    where
      at : (k d j : ℕ) → k ≡ 16 * d + j → d < 4 → j < 16 → bit m k ≡ g d j
      at k d j ek hd hj =
          ap (λ (x : ℕ). bit x k) e ∙ bit_mask 64 f k (omega arith) ∙ ap f ek ∙ same d j hd hj

      before : (d : ℕ) → d < 4 → (j : ℕ) → j < 16 → (leb 1 (16 * d + j) && bit m (16 * d + j - 1)) ≡ (leb 1 j && g d (j - 1))
      before zero hd zero hj = refl
      before (suc d) hd zero hj =
          ap (λ (b : Bool). leb 1 (16 * suc d + 0) && b) (at (16 * suc d + 0 - 1) d 15 (omega arith) (omega arith) (omega arith) ∙ last d)
          ∙ and-false (leb 1 (16 * suc d + 0))
      before d hd (suc j) hj =
          ap₂ (λ (a b : Bool). a && b) (le-leb 1 (16 * d + suc j) (omega arith) ∙ sym (le-leb 1 (suc j) (omega arith)))
          (at (16 * d + suc j - 1) d j (omega arith) hd (omega arith) ∙ ap (g d) (omega arith))

  -- no window starts at a line's last place
  scores-last : (black : Bool) (n d : ℕ) → scores black (size d) (own d) (other d) n 15 ≡ false
  unfolding scores inside
  scores-last black n d = let s = laid.small d in rw (lt-leb (15 + 5) (size d) (omega arith)) refl

  holds-last : (n d : ℕ) → holds (size d) (own d) (other d) n 15 ≡ false
  unfolding holds inside
  holds-last n d = let s = laid.small d in rw (lt-leb (15 + 5) (size d) (omega arith)) refl

  -- ---- rows

  pub scored-row : (black : Bool) (n d j : ℕ) → d < 4 → j < 16
      → alive_with black mine blocked n (16 * d + j) ≡ scores black (size d) (own d) (other d) n j
  scored-row black n d j hd hj = scores-same d hd j hj black n

  pub over-row : (n m d j : ℕ) → d < 4 → j < 16 → m ≡ mask_of 64 (free_with mine blocked n)
      → pair_in m (16 * d + j) ≡ over_at (size d) (own d) (other d) n j
  over-row n m d j hd hj e =
      pair_same (free_with mine blocked n) (λ d. holds (size d) (own d) (other d) n) m d j hd hj e (λ d j hd hj. holds_same d hd j hj n)
      (holds-last n)
      ∙ over-bit (size d) (own d) (other d) n j

  pub open_row : (black : Bool) (n m d j : ℕ) → d < 4 → j < 16 → m ≡ mask_of 64 (alive_with black mine blocked n)
      → (pair_in m (16 * d + j) && not (mine (16 * d + j + 4))) ≡ open_at black (size d) (own d) (other d) n j
  open_row black n m d j hd hj e =
      ap (λ (b : Bool). b && not (mine (16 * d + j + 4)))
      (pair_same (alive_with black mine blocked n) (λ d. scores black (size d) (own d) (other d) n) m d j hd hj e
      (λ d j hd hj. scores-same d hd j hj black n) (scores-last black n))
      ∙ and_same (scores black (size d) (own d) (other d) n j && (leb 1 j && scores black (size d) (own d) (other d) n (j - 1)))
      (not (mine (16 * d + j + 4))) (not (own d (j + 4)))
      (λ t. ap not (cell-mine d hd (16 * d + j + 4) (j + 4) (omega arith) (within t)))
      ∙ open-bit black (size d) (own d) (other d) n j
    where
      within : T (scores black (size d) (own d) (other d) n j && (leb 1 j && scores black (size d) (own d) (other d) n (j - 1)))
          → j + 4 < 16
      within t =
          let u = inside_of (scored black (size d) (own d) (other d) n j (and_left (scores black (size d) (own d) (other d) n j) _ t)) in
          let s = laid.small d in
          omega arith
        where
          inside_of : Window (size d) (own d) (other d) n j → j + 5 ≤ size d
          inside_of w = w.fits

-- ---- the words that the code makes of the masks of four lines

module _ (own other : List ℕ) (p : ℕ) where
  abbrev sizes : ℕ → ℕ
  sizes d = line_size d (line_no d p)

  pub laid : {off a b mine blocked : ℕ} → off ≡ mask_of 64 (past_end p) → a ≡ mask_of 64 (place_in own) → b ≡ mask_of 64 (place_in other)
      → mine ≡ bit_and a ((2 ^ 64 - 1) - off) → blocked ≡ bit_or b off
      → Laid sizes (stones_shown own p) (stones_shown other p) (bit mine) (bit blocked)
  unfolding place_in past_end stones_shown
  laid {off} {a} {b} {mine} {blocked} eo ea eb em ew =
      record {
        small = λ d. size-le d (line_no d p);
        mine-at = λ d j hd hj.
            ap (λ (x : ℕ). bit x (16 * d + j))
            (em ∙ ap₂ bit_and ea (ap (λ (x : ℕ). (2 ^ 64 - 1) - x) eo ∙ mask-not 64 (past_end p)) ∙ mask-and 64 (place_in own)
            (λ k. not (past_end p k)))
            ∙ bit_mask 64 (λ k. place_in own k && not (past_end p k)) (16 * d + j) (omega arith)
            ∙ ap₂ (λ (d j : ℕ). bit (get_or own d 0) j && not (leb (sizes d) j)) (in-line d j hj) (in_cell d j hj)
            ∙ ap (λ (b : Bool). bit (get_or own d 0) j && b) (not-leb (sizes d) j) ∙ and-flip (bit (get_or own d 0) j) (ltb j (sizes d));
        block_at = λ d j hd hj.
            ap (λ (x : ℕ). bit x (16 * d + j)) (ew ∙ ap₂ bit_or eb eo ∙ mask-or 64 (place_in other) (past_end p))
            ∙ bit_mask 64 (λ k. place_in other k || past_end p k) (16 * d + j) (omega arith)
            ∙ ap₂ (λ (d j : ℕ). bit (get_or other d 0) j || leb (sizes d) j) (in-line d j hj) (in_cell d j hj)
            ∙ table2 (λ b e. b || e) (λ b e. e || (not e && b)) tt (bit (get_or other d 0) j) (leb (sizes d) j)
            ∙ ap (λ (x : Bool). leb (sizes d) j || (x && bit (get_or other d 0) j)) (not-leb (sizes d) j);
        own_in = λ d j h. ap (λ (x : Bool). x && bit (get_or own d 0) j) (le-ltb j (sizes d) h);
      }

  -- the rows of a mask that go through p, parted
  pub rows-parted : (black : Bool) (kind : RowKind) (rows : ℕ → Bool) {m spots reach : ℕ} → m ≡ mask_of 64 rows
      → spots ≡ mask_of 64 (spot_at p) → reach ≡ mask_of 64 (λ k. any_below (span kind) (λ i. bit spots (k + i)))
      → ((d j : ℕ) → d < 4 → j < 16 → rows (16 * d + j) ≡ row_at black (sizes d) (stones_shown own p d) (stones_shown other p d) kind j)
      → tab 4 (λ d. mask_of 16 (λ j. bit (bit_and m reach) (16 * d + j))) ≡ start_masks (seen black own other p kind)
  unfolding start_masks seen
  rows-parted black kind rows {m} {spots} {reach} em es er same = tab-cong 4 _ _ (λ d hd. mask-cong 16 _ _ (λ j hj. at d j hd hj))
    where
      row : ℕ → ℕ → Bool
      row d j = row_at black (sizes d) (stones_shown own p d) (stones_shown other p d) kind j

      short : (d j : ℕ) → T (row d j) → j + span kind ≤ 16
      short d j t =
          let h = row_inside black (sizes d) (stones_shown own p d) (stones_shown other p d) kind j t in
          omega (arith, size-le d (line_no d p), span-le kind)

      at : (d j : ℕ) → d < 4 → j < 16 → bit (bit_and m reach) (16 * d + j) ≡ (through kind (cell_no d p) j && row d j)
      at d j hd hj =
          bit-and m reach (16 * d + j)
          ∙ ap (λ (b : Bool). b && bit reach (16 * d + j))
          (ap (λ (x : ℕ). bit x (16 * d + j)) em ∙ bit_mask 64 rows (16 * d + j) (omega arith) ∙ same d j hd hj)
          ∙ and_same (row d j) (bit reach (16 * d + j)) (through kind (cell_no d p) j)
          (λ t. reach-place (span kind) p d j hd hj (short d j t) es er)
          ∙ and-flip (row d j) (through kind (cell_no d p) j)

  -- so the rows that are read of the windows that were scored are the rows of the four lines
  pub rows_are : (b : Bool) {off x y mine blocked twos threes fours overs : ℕ} {r : Rows} → off ≡ mask_of 64 (past_end p)
      → x ≡ mask_of 64 (place_in own) → y ≡ mask_of 64 (place_in other) → mine ≡ bit_and x ((2 ^ 64 - 1) - off) → blocked ≡ bit_or y off
      → (twos ≡ mask_of 64 (alive_with b (bit mine) (bit blocked) 2)) × (threes ≡ mask_of 64 (alive_with b (bit mine) (bit blocked) 3))
      × (fours ≡ mask_of 64 (alive_with b (bit mine) (bit blocked) 4)) × (overs ≡ mask_of 64 (free_with (bit mine) (bit blocked) 4))
      → (r.fours ≡ reaching 5 p fours) × (r.overlinings ≡ reaching 4 p (mask_of 64 (pair_in overs))) × (r.swords ≡ reaching 5 p threes)
      × (r.twos ≡ reaching 4 p (mask_of 64 (λ k. pair_in twos k && not (bit mine (k + 4)))))
      → RowsAre (seen b own other p) r
  unfolding row_at reaching
  rows_are b eo ex ey em eb w e =
      let l = laid eo ex ey em eb in
      record {
        fours = e.0 ∙ rows-parted b Four _ w.2 refl refl (scored-row _ _ _ _ _ l b 4);
        overlinings = e.1
            ∙ rows-parted b Overlining _ refl refl refl (λ d j hd hj. over-row _ _ _ _ _ l 4 _ d j hd hj w.3);
        swords = e.2 ∙ rows-parted b Sword _ w.1 refl refl (scored-row _ _ _ _ _ l b 3);
        twos = e.3
            ∙ rows-parted b Two _ refl refl refl (λ d j hd hj. open_row _ _ _ _ _ l b 2 _ d j hd hj w.0);
      }

  -- no row starts at a line's last place
  pub seen_low : (b : Bool) (kind : RowKind) → 1 ≤ span kind → (d j : ℕ) → d < 4 → T (seen b own other p kind d j) → j < 15
  unfolding seen
  seen_low b kind h d j hd t =
      omega (
        arith,
        h,
        row_inside b (sizes d) (stones_shown own p d) (stones_shown other p d) kind j (and_right (through kind (cell_no d p) j) _ t),
        size-le d (line_no d p),
      )

  module _ (b : Bool) {r : Rows} (e : RowsAre (seen b own other p) r) where
    pub four-told : {x : Bool} → x ≡ some_row (starts_of r.fours) → x ≡ some_row (seen b own other p Four)
    four-told ex = some-masks (seen b own other p Four) (seen_low b Four (omega arith)) e.fours ex

    pub may-told : {x y z : Bool} → x ≡ some_row (starts_of r.overlinings) → y ≡ more_than_one (starts_of r.swords)
        → z ≡ more_than_one (starts_of r.twos) → (x || y || z) ≡ may_apply (seen b own other p)
    unfolding may_apply
    may-told ex ey ez =
        rw (
          some-masks (seen b own other p Overlining) (seen_low b Overlining (omega arith)) e.overlinings ex,
          more-masks (seen b own other p Sword) (seen_low b Sword (omega arith)) e.swords ey,
          more-masks (seen b own other p Two) (seen_low b Two (omega arith)) e.twos ez,
        )
