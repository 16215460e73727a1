-- The starts of rows through a point, read off sound lines, are those of the rules. Assumes nothing.
use mathlib.Core.Path.{◌≡◌, ap, ap₂, sym, subst, ◌∙◌}
use mathlib.Core.Bool.{Bool, true, false, ◌&&◌, and-false}
use mathlib.Core.Logic.{◌⊎◌, inl, inr}
use mathlib.Core.List.{List}
use Prim.Native.Nat.{ℕ, ◌≤◌, ◌<◌}
use native.Mathlib.Omega.{arith}
use lib.Dec.{T, ltb, le→leb}
use lib.ListN.{get_or}
use borrow.Author.Tests.{lt-ltb}
use Rattle.rules.specs.Numbers.{is_black, opponent_of}
use Rattle.rules.specs.Bit.{bit, mask_of}
use Rattle.rules.specs.Line.{Stones, row_at, through}
use Rattle.rules.specs.Point.{line_no, cell_no, line_size, stored, stored_at, key_at, key_size}
use Rattle.rules.specs.Grid.{stone_at, start_masks, row_on, rows_through}
use Rattle.rules.specs.declared.Player.{Player}
use Rattle.rules.specs.declared.RowKind.{RowKind}
use Rattle.rules.proofs.Logic.{true-T, decide, not-intro, not-false, and_intro, and-flip}
use Rattle.rules.proofs.Lists.{get_d-tab, tab-cong}
use Rattle.rules.proofs.Bits.{mask-cong, bits_of, mask-none}
use Rattle.rules.proofs.Address.{line-here, stored-long}
use Rattle.rules.proofs.Windows.{row_inside}
use Rattle.rules.proofs.Rows.{start-lt}
use Rattle.point.specs.Places.{has_place}
use Rattle.grid.specs.Lines.{shows, cells_of, Sound, starts_in, starts_on}
use Rattle.grid.proofs.Lines.{Through, line_at, shows-sound}

-- where a line is not stored no row stands on it, whatever its stones: it has no window
pub short_none : (black : Bool) (own other : Stones) (kind : RowKind) (p d j : ℕ) → d < 4 → p < 225 → has_place d p ≡ false
    → row_at black (line_size d (line_no d p)) own other kind j ≡ false
unfolding has_place stored_at
short_none black own other kind p d j hd hp e =
    not-false (not-intro (row_at black (line_size d (line_no d p)) own other kind j) (λ t.
    let long : 5 ≤ line_size d (line_no d p) =
    let h = row_inside black (line_size d (line_no d p)) own other kind j t in omega arith in
    let s : T (stored d (line_no d p)) =
    subst T (sym (stored-long d (line_no d p) hd (line-here d p hd hp))) (le→leb 5 (line_size d (line_no d p)) long) in
    subst T e (and_intro (ltb p 225) (stored d (line_no d p)) (true-T (lt-ltb p 225 hp)) s)))

pub none-short : (r : Player) (k : RowKind) (cells : List ℕ) (p d : ℕ) → d < 4 → p < 225 → has_place d p ≡ false → (j : ℕ)
    → rows_through r k cells p d j ≡ false
unfolding rows_through row_on
none-short r k cells p d hd hp e j =
    ap (λ (b : Bool). through k (cell_no d p) j && b)
    (short_none (is_black r) (stone_at r cells d (line_no d p)) (stone_at (opponent_of r) cells d (line_no d p)) k p d j hd hp e)
    ∙ and-false (through k (cell_no d p) j)

-- the rows of a line through a point, by what its masks show
pub shown-rows : (r : Player) (k : RowKind) (l : List ℕ) (p d j : ℕ) → Sound l → Through d p
    → row_at (is_black r) (key_size (key_at d p)) (shows r l (key_at d p)) (shows (opponent_of r) l (key_at d p)) k j
    ≡ row_on r k (cells_of l) d (line_no d p) j
unfolding row_on key_size
shown-rows r k l p d j s th =
    ap₂ (λ (f g : Stones). row_at (is_black r) (key_size (key_at d p)) f g k j) (shows-sound r l (key_at d p) s th.key)
    (shows-sound (opponent_of r) l (key_at d p) s th.key)
    ∙ ap₂ (λ (x y : ℕ). row_on r k (cells_of l) x y j) th.dir th.no

pub starts-along : (r : Player) (k : RowKind) (l : List ℕ) (p d : ℕ) → Sound l → d < 4 → p < 225
    → starts_in l p r k d ≡ mask_of 16 (rows_through r k (cells_of l) p d)
unfolding starts_in
starts-along r k l p d s hd hp = go (decide (has_place d p))
  where
    go : (has_place d p ≡ true) ⊎ (has_place d p ≡ false) → starts_in l p r k d ≡ mask_of 16 (rows_through r k (cells_of l) p d)
    go (inl t) =
        rw t (mask-cong 16 _ _ (λ j h. unfold rows_through in
        (ap (λ (b : Bool). b && through k (cell_no d p) j) (shown-rows r k l p d j s (line_at d p hd (true-T t)))
        ∙ and-flip (row_on r k (cells_of l) d (line_no d p) j) (through k (cell_no d p) j))))
    go (inr t) = rw t (sym (mask-none 16 (rows_through r k (cells_of l) p d) (λ j h. none-short r k (cells_of l) p d hd hp t j)))

pub starts-masks : (r : Player) (k : RowKind) (l : List ℕ) (p : ℕ) → Sound l → p < 225
    → starts_on l p r k ≡ start_masks (rows_through r k (cells_of l) p)
unfolding starts_on start_masks
starts-masks r k l p s hp = tab-cong 4 _ _ (λ d hd. starts-along r k l p d s hd hp)

-- its bits are the tests of the rules
pub starts-bits : (r : Player) (k : RowKind) (l : List ℕ) (p d : ℕ) → Sound l → d < 4 → p < 225
    → bit (starts_in l p r k d) ≡ rows_through r k (cells_of l) p d
starts-bits r k l p d s hd hp =
    ap bit (starts-along r k l p d s hd hp)
    ∙ bits_of 16 (rows_through r k (cells_of l) p d)
    (λ j h. not-false (not-intro (rows_through r k (cells_of l) p d j) (λ t.
    let b = start-lt r k (cells_of l) p d j t in absurd (omega arith))))

pub starts-on : (l : List ℕ) (p : ℕ) (r : Player) (k : RowKind) (d : ℕ) → d < 4 → get_or (starts_on l p r k) d 0 ≡ starts_in l p r k d
unfolding starts_on
starts-on l p r k d hd = get_d-tab 4 (starts_in l p r k) d hd
