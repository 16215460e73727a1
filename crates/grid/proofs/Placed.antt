-- What an address tells of a write, of a mark, of the masks of a line and of the starts of rows. Assumes nothing.
use mathlib.Core.Path.{◌≡◌, refl, subst, sym, ap, ◌∙◌}
use mathlib.Core.Logic.{inl, inr}
use mathlib.Core.Bool.{Bool, true, false, ◌&&◌, cond}
use mathlib.Core.List.{List}
use Prim.Native.Nat.{ℕ, ◌<◌}
use native.Mathlib.Omega.{arith}
use lib.ListN.{get_or, set}
use Rattle.rules.specs.Numbers.{is_black, opponent_of}
use Rattle.rules.specs.Tools.{tab}
use Rattle.rules.specs.Bit.{bit, mask_of}
use Rattle.rules.specs.Line.{row_at, through}
use Rattle.rules.specs.Point.{key_size}
use Rattle.rules.specs.declared.Player.{Player}
use Rattle.rules.specs.declared.Player.TheVariants.{Black, White}
use Rattle.rules.specs.declared.RowKind.{RowKind}
use Rattle.masks.specs.Masks.{placed}
use Rattle.point.specs.declared.place.Place.{Place}
use Rattle.point.specs.Places.{has_place, place_of, place_by, addresses}
use Rattle.point.proofs.Stored.{place-stored, place-has, place-key, place-cell, place-key-lt, place-by, by-key-lt}
use Rattle.grid.specs.Lines.{entry_no, mask_on, mask_through, masks_through, mask_by, masks_by, shows, write_line, write_in}
use Rattle.grid.specs.Lines.{mark_line, mark_in, mark_on, mark_place, mark_by, starts_in, starts_on, starts_at, starts_by}
use Rattle.rules.proofs.Logic.{decide}
use Rattle.grid.proofs.Lines.{mask-entry}

-- an entry of a stored line is one of the 144
entry_lt : (who : Player) (k : ℕ) → k < 72 → entry_no who k < 144
entry_lt Black k h = omega arith
entry_lt White k h = omega arith

-- ---- by a lent table

-- a place on one of the 72 lines, whatever the table
module _ (r : Place) (table : List ℕ) (d p : ℕ) (e : r ≡ place_by table d p) where
  pub entry-by : (who : Player) → entry_no who r.key < 144
  entry-by who = entry_lt who r.key (by-key-lt table d p e)

  pub mask-by : (l : List ℕ) (who : Player) → r.stored ≡ true → get_or l (entry_no who r.key) 0 ≡ mask_by l table p who d
  mask-by l who s = rw (sym e, s) (sym (mask-entry who l r.key (by-key-lt table d p e)))

  pub no-mask-by : (l : List ℕ) (who : Player) → r.stored ≡ false → 0 ≡ mask_by l table p who d
  no-mask-by l who s = rw (sym e, s)

  pub marked_by : (l : List ℕ) (who : Player) (on : Bool) → r.stored ≡ true
      → set l (entry_no who r.key) (mask_of 16 (placed (bit (get_or l (entry_no who r.key) 0)) r.cell on))
      ≡ mark_place l (place_by table d p) who on
  unfolding mark_place mark_line
  marked_by l who on s = rw (sym e, s)

  pub not-marked-by : (l : List ℕ) (who : Player) (on : Bool) → r.stored ≡ false → l ≡ mark_place l (place_by table d p) who on
  unfolding mark_place
  not-marked-by l who on s = rw (sym e, s)

-- ---- by section 3's table, which is the same as by the address

pub by-addresses : {r : Place} {table : List ℕ} (d p : ℕ) → r ≡ place_by table d p → table ≡ addresses → r ≡ place_of d p
by-addresses d p e t = e ∙ ap (λ (t : List ℕ). place_by t d p) t ∙ place-by d p

place_in : (l : List ℕ) (d p : ℕ) (who : Player) (on : Bool) → mark_place l (place_of d p) who on ≡ mark_in l d p who on
unfolding mark_place mark_in place_of
place_in l d p who on =
    elim (decide (has_place d p)) [
      | inl s ↦ rw s refl
      | inr s ↦ rw s refl
    ]

at_address : (l table : List ℕ) (d p : ℕ) (who : Player) (on : Bool) → table ≡ addresses
    → mark_place l (place_by table d p) who on ≡ mark_in l d p who on
at_address l table d p who on e = ap (λ (a : Place). mark_place l a who on) (by-addresses d p refl e) ∙ place_in l d p who on

pub mark-by : (l table : List ℕ) (p : ℕ) (who : Player) (on : Bool) → table ≡ addresses → mark_by l table p who on ≡ mark_on l p who on
unfolding mark_by mark_on
mark-by l table p who on e = rw (
  at_address l table 0 p who on e,
  at_address (mark_in l 0 p who on) table 1 p who on e,
  at_address (mark_in (mark_in l 0 p who on) 1 p who on) table 2 p who on e,
  at_address (mark_in (mark_in (mark_in l 0 p who on) 1 p who on) 2 p who on) table 3 p who on e,
)

-- one of four masks
mask_at : (l : List ℕ) (d p : ℕ) (who : Player) (a : Place) → a ≡ place_of d p
    → cond a.stored (mask_on who l a.key) 0 ≡ mask_through l p who d
mask_at l d p who a e =
    elim (decide (has_place d p)) [
      | inl s ↦ rw (place-stored d p e, s, place-key d p e (place-stored d p e ∙ s)) refl
      | inr s ↦ rw (place-stored d p e, s) refl
    ]

pub masks-by : (l table : List ℕ) (p : ℕ) (who : Player) → table ≡ addresses → masks_by l table p who ≡ masks_through l p who
unfolding masks_by masks_through tab
masks-by l table p who e =
    let at : (d : ℕ) → mask_by l table p who d ≡ mask_through l p who d =
    λ d. mask_at l d p who (place_by table d p) (by-addresses d p refl e) in
    rw (at 0, at 1, at 2, at 3)

-- ---- by the address

module _ (r : Place) (d p : ℕ) (e : r ≡ place_of d p) where
  pub place-fits : d < 4 → r.stored ≡ true → r.key < 72
  place-fits hd s = subst (λ (k : ℕ). k < 72) (sym (place-key d p e s)) (place-key-lt d p hd (place-has d p e s))

  pub place-write : (l : List ℕ) (v : ℕ) → r.stored ≡ true → write_line l r.key r.cell v ≡ write_in l d p v
  unfolding write_in
  place-write l v s = rw (place-key d p e s, place-cell d p e s, place-has d p e s)

  pub nowhere-write : (l : List ℕ) (v : ℕ) → r.stored ≡ false → l ≡ write_in l d p v
  unfolding write_in
  nowhere-write l v s = rw (sym (place-stored d p e) ∙ s)

  place-starts : (l : List ℕ) (who : Player) (kind : RowKind) → r.stored ≡ true
      → mask_of 16 (λ j. row_at (is_black who) (key_size r.key) (shows who l r.key) (shows (opponent_of who) l r.key) kind j
      && through kind r.cell j) ≡ starts_in l p who kind d
  unfolding starts_in
  place-starts l who kind s = rw (place-key d p e s, place-cell d p e s, place-has d p e s)

  nowhere-starts : (l : List ℕ) (who : Player) (kind : RowKind) → r.stored ≡ false → 0 ≡ starts_in l p who kind d
  unfolding starts_in
  nowhere-starts l who kind s = rw (sym (place-stored d p e) ∙ s)

  -- the starts on the line of an address are those on the line through the point
  pub starts-at : (l : List ℕ) (who : Player) (kind : RowKind) → starts_at l r who kind ≡ starts_in l p who kind d
  unfolding starts_at
  starts-at l who kind =
      elim (decide r.stored) [
        | inl s ↦ rw s (place-starts l who kind s)
        | inr s ↦ rw s (nowhere-starts l who kind s)
      ]

pub starts_by_lem : (l table : List ℕ) (p : ℕ) (who : Player) (kind : RowKind) → table ≡ addresses
    → starts_by l table p who kind ≡ starts_on l p who kind
unfolding starts_by starts_on tab
starts_by_lem l table p who kind e =
    let at : (d : ℕ) → starts_at l (place_by table d p) who kind ≡ starts_in l p who kind d =
    λ d. starts-at (place_by table d p) d p (by-addresses d p refl e) l who kind in
    rw (at 0, at 1, at 2, at 3)
