-- The eye of an attack, found on sound lines before its stone is put; what start masks tell; a stone put and taken off. Assumes nothing.
use mathlib.Core.Path.{◌≡◌, refl, ap, ap₂, sym, subst, ◌∙◌}
use mathlib.Core.Bool.{Bool, true, false, cond}
use mathlib.Core.Logic.{◌⊎◌, inl, inr}
use mathlib.Core.List.{List}
use Prim.Native.Nat.{ℕ, ◌≤◌, ◌<◌}
use native.Mathlib.Omega.{arith}
use lib.Dec.{T, eqb}
use lib.ListN.{get_or}
use borrow.Author.Tests.{eqb-true, ne_eqb}
use Rattle.rules.specs.Numbers.{colour_no}
use Rattle.rules.specs.Bit.{bit, mask_of}
use Rattle.rules.specs.Line.{Stones}
use Rattle.rules.specs.Point.{line_no, cell_no, point_at, key_at}
use Rattle.rules.specs.Grid.{is_empty, put, stone_at, start_masks, starts_of, rows_through}
use Rattle.rules.specs.Forbidden.{some_row}
use Rattle.rules.specs.declared.Player.{Player}
use Rattle.rules.specs.declared.Player.TheVariants.{Black, White}
use Rattle.rules.specs.declared.RowKind.{RowKind}
use Rattle.rules.specs.declared.RowKind.TheVariants.{Sword}
use Rattle.rules.proofs.Logic.{true-T, T_true, decide}
use Rattle.rules.proofs.Bits.{mask-cong}
use Rattle.rules.proofs.Address.{line-here}
use Rattle.rules.proofs.Changes.{stone-on}
use Rattle.rules.proofs.Starts.{some-masks, start-low}
use Rattle.masks.specs.Masks.{placed}
use Rattle.point.specs.declared.place.Place.{Place}
use Rattle.point.specs.Places.{has_place, place_of, addresses}
use Rattle.cells.proofs.Given.{colour-small}
use Rattle.grid.specs.Lines.{cell_of, cells_of, Sound, mask_on, write_on, lift_on, mark_by}
use Rattle.grid.proofs.Lines.{line_at, mask-sound, stone-bits, length-cells_of, cell-on, empty-cell, cells-write, sound-write}
use Rattle.grid.proofs.Marked.{add-write, trial-marked}
use Rattle.grid.proofs.Placed.{mark-by}
use Rattle.grid.proofs.RowStarts.{none-short}
use Rattle.hint.specs.Seen.{gap_of, sword_eye}
use Rattle.hint.proofs.Asked.{zero-empty}
use Rattle.hint.proofs.Gaps.{sword-eye}

-- whether some row of the kind goes through a point, by the start masks
pub some-told : (r : Player) (kind : RowKind) (cells : List ℕ) (p : ℕ) {m : List ℕ} → m ≡ start_masks (rows_through r kind cells p) → {b : Bool}
    → b ≡ some_row (starts_of m) → b ≡ some_row (rows_through r kind cells p)
some-told r kind cells p e eb = some-masks (rows_through r kind cells p) (start-low r kind cells p) e eb

own-colour : (r : Player) → eqb (colour_no r) (colour_no r) ≡ true
own-colour Black = refl
own-colour White = refl

module _ (r : Player) (l : List ℕ) (p d j : ℕ) (s : Sound l) (hp : p < 225) (none : get_or (cells_of l) p 0 ≡ 0) (hd : d < 4)
    (t : T (rows_through r Sword (cells_of l) p d j)) where
  -- its line is stored
  has-line : has_place d p ≡ true
  has-line = go (decide (has_place d p))
    where
      go : (has_place d p ≡ true) ⊎ (has_place d p ≡ false) → has_place d p ≡ true
      go (inl e) = e
      go (inr e) = absurd (subst T (none-short r Sword (cells_of l) p d hd hp e j) t)

  module _ {a : Place} {m m' i g q : ℕ} (ea : a ≡ place_of d p) (em : m ≡ mask_on r l a.key)
      (en : m' ≡ mask_of 16 (placed (bit m) a.cell true)) (ei : i ≡ line_no d p) (eg : g ≡ gap_of (bit m') j) (eq : q ≡ point_at d i g) where
    cell-is : a.cell ≡ cell_no d p
    unfolding place_of
    cell-is = ap (λ (x : Place). x.cell) ea ∙ rw has-line

    mask_is : mask_on r l a.key ≡ mask_of 16 (stone_at r (cells_of l) d (line_no d p))
    unfolding place_of
    mask_is =
        let th = line_at d p hd (true-T has-line) in
        ap (λ (x : Place). mask_on r l x.key) ea ∙ rw has-line (mask-sound r l (key_at d p) s th.key ∙ rw (th.dir, th.no))

    before : bit m ≡ stone_at r (cells_of l) d (line_no d p)
    before = ap bit (em ∙ mask_is) ∙ stone-bits r (cells_of l) d (line_no d p)

    -- the stones with the one that is to be put
    after : bit m' ≡ stone_at r (put r (cells_of l) p) d (line_no d p)
    after =
        ap bit (en ∙ ap₂ (λ (f : Stones) (c : ℕ). mask_of 16 (placed f c true)) before cell-is
        ∙ mask-cong 16 (placed (stone_at r (cells_of l) d (line_no d p)) (cell_no d p) true) (stone_at r (put r (cells_of l) p) d (line_no d p))
        (λ k hk. ap (λ (b : Bool). cond (eqb k (cell_no d p)) b (stone_at r (cells_of l) d (line_no d p) k)) (sym (own-colour r))
        ∙ stone-on r (cells_of l) d (line_no d p) p (colour_no r) hd (line-here d p hd hp) (length-cells_of l) hp refl k))
        ∙ stone-bits r (put r (cells_of l) p) d (line_no d p)

    pub eye-found : q ≡ sword_eye r (cells_of l) p d j
    unfolding sword_eye
    eye-found = eq ∙ ap₂ (point_at d) ei (eg ∙ ap (λ (f : Stones). gap_of f j) after)

    pub eye-byte : q ≤ 255
    eye-byte =
        let e = eye-found in
        let h = (sword-eye r (cells_of l) p (length-cells_of l) hp (zero-empty none) d j hd t).lt in
        omega arith

-- ---- a stone put on sound lines at an empty point, by the lent table, and taken off again

module _ (r : Player) (l table : List ℕ) (p : ℕ) (s : Sound l) (hp : p < 225) (none : get_or (cells_of l) p 0 ≡ 0) (et : table ≡ addresses)
    {m : List ℕ} (em : m ≡ mark_by l table p r true) where
  put_is : m ≡ write_on l p (colour_no r)
  put_is = em ∙ mark-by l table p r true et ∙ add-write l p r s hp none

  pub put-sound : Sound m
  put-sound = rw put_is (sound-write l p (colour_no r) s (colour-small r))

  pub put-cells : cells_of m ≡ put r (cells_of l) p
  put-cells = ap cells_of put_is ∙ cells-write l p (colour_no r) s (colour-small r)

  -- nothing else has changed them
  pub put_back : {n k : List ℕ} → n ≡ m → k ≡ mark_by n table p r false → k ≡ l
  put_back {n} en ek =
      ek ∙ mark-by n table p r false et ∙ ap (λ (x : List ℕ). lift_on x p r) (en ∙ em ∙ mark-by l table p r true et)
      ∙ trial-marked l p r s hp none

-- an empty cell's value is 0
pub empty-is : (l : List ℕ) (p : ℕ) → p < 225 → T (is_empty (get_or (cells_of l) p 0)) → get_or (cells_of l) p 0 ≡ 0
empty-is l p hp t = eqb-true (get_or (cells_of l) p 0) 0 (empty-cell l p hp ∙ T_true t)

-- what stands at a point tells whether it is empty
module _ (l : List ℕ) (p : ℕ) (hp : p < 225) {v : ℕ} (e : v ≡ cell_of l p) where
  pub taken-there : (v ≡ 0 → ⊥) → is_empty (get_or (cells_of l) p 0) ≡ false
  taken-there n = sym (empty-cell l p hp) ∙ ap (λ (x : ℕ). eqb x 0) (sym (e ∙ cell-on l p hp)) ∙ ne_eqb v 0 n

  pub free-there : v ≡ 0 → get_or (cells_of l) p 0 ≡ 0
  free-there z = sym (e ∙ cell-on l p hp) ∙ z
