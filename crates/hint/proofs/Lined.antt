-- Rows anywhere on the board, read off the stored lines key by key: a five that stands, and a point that completes one. Assumes nothing.
use mathlib.Core.Path.{◌≡◌, refl, ap, ap₂, sym, subst, subst₂, ◌∙◌}
use mathlib.Core.Bool.{Bool, true, false, not, ◌&&◌}
use mathlib.Core.List.{List}
use Prim.Native.Nat.{ℕ, ◌+◌, ◌<◌}
use native.Mathlib.Numerals.{add-one}
use native.Mathlib.Omega.{arith}
use lib.Dec.{T, eqb, le→leb}
use lib.ListN.{length, get_or}
use borrow.Author.Tests.{eq-eqb, ne_eqb}
use Rattle.rules.specs.Numbers.{colour_no, is_black, opponent_of}
use Rattle.rules.specs.Tools.{any_below}
use Rattle.rules.specs.Bit.{bit, mask_of}
use Rattle.rules.specs.Line.{Stones, among, row_at}
use Rattle.rules.specs.Point.{line_no, cell_no, line_count, line_size, point_at, stored, key_of, key_dir, key_no, key_size}
use Rattle.rules.specs.Grid.{stone_at, row_on, rows_through}
use Rattle.rules.specs.declared.Player.{Player}
use Rattle.rules.specs.declared.Player.TheVariants.{Black, White}
use Rattle.rules.specs.declared.RowKind.{RowKind}
use Rattle.rules.specs.declared.RowKind.TheVariants.{Four, Five}
use Rattle.rules.proofs.Logic.{T_true, true-T, along, not-false, and_intro, both_ways, any-elim, any-intro}
use Rattle.rules.proofs.Bits.{mask-any}
use Rattle.rules.proofs.Address.{size-le, stored-long, key-lt, key-dir, key-no, key_dir-lt, key_no-lt, line-here, point-lt, line-there, cell-there}
use Rattle.rules.proofs.Rows.{row_on-inside, stone-here, through-row}
use Rattle.rules.proofs.Windows.{free-at}
use Rattle.grid.specs.Lines.{mask_on, cells_of, Sound}
use Rattle.grid.proofs.Lines.{shows-sound}
use Rattle.hint.specs.Hint.{has_five, goes_on, completes}
use Rattle.hint.specs.Seen.{row_on_key}
use Rattle.hint.proofs.OneLine.{scores-says}
use Rattle.hint.proofs.Stone.{five-elim, five-intro, completes-elim, completes-intro, four-scores, none-empty, in_window}
use Rattle.hint.proofs.Gaps.{gap-five}

-- ---- a search for a number that passes

pub any_none : (f : ℕ → Bool) → any_below 0 f ≡ false
unfolding any_below
any_none f = refl

pub any-more : (n : ℕ) (f : ℕ → Bool) → any_below n f ≡ false → f n ≡ false → any_below (n + 1) f ≡ false
unfolding any_below
any-more n f e h = rw (add-one, h, e)

pub any_found : (n : ℕ) (f : ℕ → Bool) (k : ℕ) → k < n → f k ≡ true → true ≡ any_below n f
any_found n f k h t = sym (T_true (any-intro n f k h (true-T t)))

-- ---- lines by their keys

module _ (r : Player) (cells : List ℕ) where
  to-key : (kind : RowKind) (d i j : ℕ) → d < 4 → i < line_count d → T (row_on r kind cells d i j) → T (any_below 72 (row_on_key r kind cells))
  unfolding row_on_key
  to-key kind d i j hd hi t =
      let fits = row_on-inside r kind cells d i j t in
      let small = size-le d i in
      let s : T (stored d i) = along (sym (stored-long d i hd hi)) (le→leb 5 (line_size d i) (omega arith)) in
      any-intro 72 (row_on_key r kind cells) (key_of d i) (key-lt d i hd hi s)
      (any-intro 16 (row_on r kind cells (key_dir (key_of d i)) (key_no (key_of d i))) j (omega arith)
      (subst₂ (λ (x y : ℕ). T (row_on r kind cells x y j)) (sym (key-dir d i hd hi s)) (sym (key-no d i hd hi s)) t))

  of-key : (kind : RowKind) → T (any_below 72 (row_on_key r kind cells)) → (d i j : ℕ) × (d < 4) × (i < line_count d) × T (row_on r kind cells d i j)
  unfolding row_on_key
  of-key kind t =
      let (k, hk, u) = any-elim 72 (row_on_key r kind cells) t in
      let (j, hj, v) = any-elim 16 (row_on r kind cells (key_dir k) (key_no k)) u in
      (key_dir k, key_no k, j, key_dir-lt k hk, key_no-lt k hk, v)

  pub five-keys : any_below 72 (row_on_key r Five cells) ≡ has_five r cells
  five-keys =
      both_ways (any_below 72 (row_on_key r Five cells)) (has_five r cells) (λ t. five-intro r cells (of-key Five t))
      (λ t. let (d, i, j, hd, hi, u) = five-elim r cells t in to-key Five d i j hd hi u)

  -- a Four anywhere has a gap, which completes a five; and a point that does has a Four through it
  module _ (long : length cells ≡ 225) where
    gap-completes : (d i j : ℕ) → d < 4 → i < line_count d → T (row_on r Four cells d i j) → T (any_below 225 (completes r cells))
    unfolding rows_through
    gap-completes d i j hd hi t =
        let s = scores-says (is_black r) (line_size d i) (stone_at r cells d i) (stone_at (opponent_of r) cells d i) 4 j
        (along (four-scores r cells d i j) t) in
        let g = gap-five (stone_at r cells d i) j s.stones in
        let c = j + g.k in
        let fits = row_on-inside r Four cells d i j t in
        let lt = g.lt in
        let inside : c < line_size d i = omega arith in
        let q = point_at d i c in
        let hq : q < 225 = point-lt d i c hd hi inside in
        let line : line_no d q ≡ i = line-there d i c hd hi inside in
        let cell : cell_no d q ≡ c = cell-there d i c hd hi inside in
        let bare : (who : Player) → stone_at who cells d i c ≡ false → eqb (get_or cells q 0) (colour_no who) ≡ false =
        λ who z. sym (stone-here who cells d q hd hq) ∙ ap (λ (x : ℕ). stone_at who cells d x (cell_no d q)) line
        ∙ ap (stone_at who cells d i) cell ∙ z in
        any-intro 225 (completes r cells) q hq
        (completes-intro r cells q long hq
        (record {
          none = none-empty r (get_or cells q 0) (bare r g.none)
              (bare (opponent_of r) (not-false (free-at (stone_at (opponent_of r) cells d i) j g.k g.lt s.is_free)));
          d = d;
          j = j;
          d-lt = hd;
          four = and_intro (among 5 j (cell_no d q)) (row_on r Four cells d (line_no d q) j) (in_window j (cell_no d q) g.k g.lt (sym cell))
              (subst (λ (x : ℕ). T (row_on r Four cells d x j)) (sym line) t);
        }))

    pub four-keys : any_below 72 (row_on_key r Four cells) ≡ any_below 225 (completes r cells)
    four-keys =
        both_ways (any_below 72 (row_on_key r Four cells)) (any_below 225 (completes r cells))
        (λ t. let (d, i, j, hd, hi, u) = of-key Four t in gap-completes d i j hd hi u)
        (λ t.
        let (p, hp, u) = any-elim 225 (completes r cells) t in
        let c = completes-elim r cells p long hp u in
        to-key Four c.d (line_no c.d p) c.j c.d-lt (line-here c.d p c.d-lt hp) (through-row r Four cells p c.d c.j c.four))

  -- as a loop asks
  module _ (kind : RowKind) (k : ℕ) {v : ℕ} (e : v ≡ mask_of 16 (row_on r kind cells (key_dir k) (key_no k))) where
    pub row-there : (v ≡ 0 → ⊥) → row_on_key r kind cells k ≡ true
    unfolding row_on_key
    row-there n =
        sym (mask-any 16 (row_on r kind cells (key_dir k) (key_no k))) ∙ ap (λ (x : ℕ). not (eqb x 0)) (sym e) ∙ rw (ne_eqb v 0 n)

    pub row-none : v ≡ 0 → row_on_key r kind cells k ≡ false
    unfolding row_on_key
    row-none z =
        sym (mask-any 16 (row_on r kind cells (key_dir k) (key_no k))) ∙ ap (λ (x : ℕ). not (eqb x 0)) (sym e) ∙ rw (eq-eqb v 0 z)

-- the row on the masks of a key is the row on the cells
pub shown-rows : (r : Player) (kind : RowKind) (l : List ℕ) (k : ℕ) → Sound l → k < 72
    → mask_of 16 (row_at (is_black r) (key_size k) (bit (mask_on r l k)) (bit (mask_on (opponent_of r) l k)) kind)
    ≡ mask_of 16 (row_on r kind (cells_of l) (key_dir k) (key_no k))
unfolding row_on key_size
shown-rows r kind l k s hk =
    ap₂ (λ (f g : Stones). mask_of 16 (row_at (is_black r) (line_size (key_dir k) (key_no k)) f g kind)) (shows-sound r l k s hk)
    (shows-sound (opponent_of r) l k s hk)

-- ---- whether a line may begin

pub not-no : {b : Bool} → not b ≡ false → b ≡ true
not-no {b = true} e = refl
not-no {b = false} e = sym e

module _ (side : Player) (cells : List ℕ) (long : length cells ≡ 225) {b : Bool} (eb : b ≡ any_below 72 (row_on_key Black Five cells)) where
  pub open-black : b ≡ true → false ≡ (goes_on cells && not (any_below 225 (completes (opponent_of side) cells)))
  unfolding goes_on
  open-black t = sym (rw (sym (five-keys Black cells) ∙ sym eb ∙ t))

  module _ (nb : b ≡ false) {w : Bool} (ew : w ≡ any_below 72 (row_on_key White Five cells)) where
    pub open-white : w ≡ true → false ≡ (goes_on cells && not (any_below 225 (completes (opponent_of side) cells)))
    unfolding goes_on
    open-white t = sym (rw (sym (five-keys Black cells) ∙ sym eb ∙ nb, sym (five-keys White cells) ∙ sym ew ∙ t))

    pub open_told : w ≡ false → {f : Bool} {o : Player} → o ≡ opponent_of side → f ≡ any_below 72 (row_on_key o Four cells)
        → not f ≡ (goes_on cells && not (any_below 225 (completes (opponent_of side) cells)))
    unfolding goes_on
    open_told nw eo ef =
        ap not (ef ∙ ap (λ (x : Player). any_below 72 (row_on_key x Four cells)) eo ∙ four-keys (opponent_of side) cells long)
        ∙ sym (rw (sym (five-keys Black cells) ∙ sym eb ∙ nb, sym (five-keys White cells) ∙ sym ew ∙ nw))
