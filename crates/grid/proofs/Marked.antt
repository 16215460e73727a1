-- A stone set at an empty point, or taken off again, in the masks of its colour alone: on sound lines that is the write of its value,
-- or of 0, since the other colour's bit is off there on every stored line. Assumes nothing.
use mathlib.Core.Path.{◌≡◌, refl, ap, ap₂, subst, sym, ◌∙◌}
use mathlib.Core.Bool.{Bool, true, false}
use mathlib.Core.Logic.{◌⊎◌, inl, inr}
use mathlib.Core.List.{List}
use Prim.Native.Nat.{ℕ, zero, suc, ◌+◌, ◌<◌}
use native.Mathlib.Omega.{arith}
use native.Mathlib.Decide.{ℕ_discrete}
use lib.Dec.{T, eqb}
use lib.ListN.{length, get_or, set}
use lib.Seq.{get_or-set_same, get_or-set_other, set-get_or}
use borrow.Author.Tests.{eq-eqb, ne_eqb}
use Rattle.rules.specs.Numbers.{colour_no, player_of, is_colour, opponent_of}
use Rattle.rules.specs.Bit.{bit, mask_of}
use Rattle.rules.specs.Line.{Stones}
use Rattle.rules.specs.Point.{line_no, cell_no, key_at}
use Rattle.rules.specs.Grid.{stone_at}
use Rattle.rules.specs.declared.Player.{Player}
use Rattle.rules.specs.declared.Player.TheVariants.{Black, White}
use Rattle.rules.proofs.Logic.{true-T, decide, no_true}
use Rattle.rules.proofs.Bits.{mask-cong}
use Rattle.rules.proofs.Rows.{stone-here}
use Rattle.masks.specs.Masks.{placed}
use Rattle.point.specs.Places.{has_place}
use Rattle.grid.specs.Lines.{entry_no, lines_of, cells_of, Sound, write_line, write_in, write_on}
use Rattle.grid.specs.Lines.{mark_line, mark_in, mark_on, add_on, lift_on}
use Rattle.grid.proofs.Lines.{line_at, write-lines_of, mask-entry, mask-lines_of, shows-lines_of, lines_same, sound-lines}
use Rattle.grid.proofs.Lines.{length-cells_of, cells-write, sound-write, trial}
use Rattle.cells.proofs.Given.{colour-small}

-- a bit set to what it was leaves the mask
mask-kept : (f : Stones) (j : ℕ) (b : Bool) → f j ≡ b → mask_of 16 (placed f j b) ≡ mask_of 16 f
mask-kept f j b e = mask-cong 16 (placed f j b) f (λ i h. go i (ℕ_discrete i j))
  where
    go : (i : ℕ) → Dec (i ≡ j) → placed f j b i ≡ f i
    go i (yes q) = rw (eq-eqb i j q) (sym e ∙ ap f (sym q))
    go i (no q) = rw (ne_eqb i j q)

-- ---- one line: where the write leaves the other colour's mask, it is a mark

mark-line : (r : Player) (l : List ℕ) (k j v : ℕ)
    → mask_of 16 (placed (bit (get_or l (entry_no (opponent_of r) k) 0)) j (eqb v (colour_no (opponent_of r))))
    ≡ get_or l (entry_no (opponent_of r) k) 0
    → mark_line l k j r (eqb v (colour_no r)) ≡ write_line l k j v
unfolding mark_line write_line
mark-line Black l k j v h =
    let m : ℕ = mask_of 16 (placed (bit (get_or l k 0)) j (eqb v 1)) in
    sym (ap (set (set l k m) (72 + k)) (h ∙ sym (get_or-set_other l k (72 + k) m 0 (omega arith))) ∙ set-get_or (set l k m) (72 + k) 0)
mark-line White l k j v h =
    sym (ap (λ (x : List ℕ). set x (72 + k) (mask_of 16 (placed (bit (get_or l (72 + k) 0)) j (eqb v 2))))
    (ap (set l k) h ∙ set-get_or l k 0))

-- a mark leaves the masks of the other colour
mark-other : (r : Player) (l : List ℕ) (k j e : ℕ) (on : Bool) → k < 72 → e < 72
    → get_or (mark_line l k j r on) (entry_no (opponent_of r) e) 0 ≡ get_or l (entry_no (opponent_of r) e) 0
unfolding mark_line
mark-other Black l k j e on hk he = get_or-set_other l k (72 + e) (mask_of 16 (placed (bit (get_or l k 0)) j on)) 0 (omega arith)
mark-other White l k j e on hk he = get_or-set_other l (72 + k) e (mask_of 16 (placed (bit (get_or l (72 + k) 0)) j on)) 0 (omega arith)

-- ---- all four

module _ (p : ℕ) (r : Player) where
  -- the other colour's mask of the line through p in direction d
  other : List ℕ → ℕ → ℕ
  other l d = get_or l (entry_no (opponent_of r) (key_at d p)) 0

  -- and its bit at p is off, on each line that is stored
  Clear : List ℕ → Type 0
  Clear l = (d : ℕ) → d < 4 → T (has_place d p) → mask_of 16 (placed (bit (other l d)) (cell_no d p) false) ≡ other l d

  clear-lines_of : (cells : List ℕ) → p < 225 → eqb (get_or cells p 0) (colour_no (opponent_of r)) ≡ false → Clear (lines_of cells)
  unfolding other Clear
  clear-lines_of cells hp e d hd t =
      let th = line_at d p hd t in
      let k = key_at d p in
      let f : Stones = stone_at (opponent_of r) cells d (line_no d p) in
      let named = ap₂ (stone_at (opponent_of r) cells) th.dir th.no in
      let entry = mask-entry (opponent_of r) (lines_of cells) k th.key in
      ap (λ (g : Stones). mask_of 16 (placed g (cell_no d p) false))
      (ap bit (sym entry) ∙ shows-lines_of (opponent_of r) cells k th.key ∙ named)
      ∙ mask-kept f (cell_no d p) false (stone-here (opponent_of r) cells d p hd hp ∙ e)
      ∙ ap (mask_of 16) (sym named) ∙ sym (mask-lines_of (opponent_of r) cells k th.key) ∙ entry

  clear_in : (l : List ℕ) (d : ℕ) (on : Bool) → d < 4 → Clear l → Clear (mark_in l d p r on)
  unfolding other Clear mark_in
  clear_in l d on hd c e he t =
      subst (λ (x : ℕ). mask_of 16 (placed (bit x) (cell_no e p) false) ≡ x) (sym (same (decide (has_place d p)))) (c e he t)
    where
      same : (has_place d p ≡ true) ⊎ (has_place d p ≡ false) → other (mark_in l d p r on) e ≡ other l e
      same (inl u) =
          rw u (mark-other r l (key_at d p) (cell_no d p) (key_at e p) on (line_at d p hd (true-T u)).key (line_at e p he t).key)
      same (inr u) = rw u

  module _ (v : ℕ) (off : eqb v (colour_no (opponent_of r)) ≡ false) where
    mark-along : (l : List ℕ) (d : ℕ) → d < 4 → Clear l → mark_in l d p r (eqb v (colour_no r)) ≡ write_in l d p v
    unfolding other Clear mark_in write_in
    mark-along l d hd c = go (decide (has_place d p))
      where
        go : (has_place d p ≡ true) ⊎ (has_place d p ≡ false) → mark_in l d p r (eqb v (colour_no r)) ≡ write_in l d p v
        go (inl u) = rw u (mark-line r l (key_at d p) (cell_no d p) v (rw off (c d hd (true-T u))))
        go (inr u) = rw u

    step : (l m : List ℕ) (d : ℕ) → d < 4 → Clear l → l ≡ m → mark_in l d p r (eqb v (colour_no r)) ≡ write_in m d p v
    step l m d hd c e = mark-along l d hd c ∙ ap (λ (x : List ℕ). write_in x d p v) e

    mark-by : (l : List ℕ) → Clear l → mark_on l p r (eqb v (colour_no r)) ≡ write_on l p v
    unfolding mark_on write_on
    mark-by l c =
        let on = eqb v (colour_no r) in
        let c₁ = clear_in l 0 on (omega arith) c in
        let c₂ = clear_in (mark_in l 0 p r on) 1 on (omega arith) c₁ in
        let c₃ = clear_in (mark_in (mark_in l 0 p r on) 1 p r on) 2 on (omega arith) c₂ in
        step _ _ 3 (omega arith) c₃ (step _ _ 2 (omega arith) c₂ (step _ _ 1 (omega arith) c₁ (step l l 0 (omega arith) c refl)))

-- ---- on the lines of some cells, and on sound lines

-- at a cell without a stone of the other colour
mark-lines_of : (cells : List ℕ) (p : ℕ) (r : Player) (v : ℕ) → p < 225 → eqb (get_or cells p 0) (colour_no (opponent_of r)) ≡ false
    → eqb v (colour_no (opponent_of r)) ≡ false → mark_on (lines_of cells) p r (eqb v (colour_no r)) ≡ write_on (lines_of cells) p v
mark-lines_of cells p r v hp e off = mark-by p r v off (lines_of cells) (clear-lines_of p r cells hp e)

mark-sound : (l : List ℕ) (p : ℕ) (r : Player) (v : ℕ) → Sound l → p < 225 → eqb (get_or (cells_of l) p 0) (colour_no (opponent_of r)) ≡ false
    → eqb v (colour_no (opponent_of r)) ≡ false → mark_on l p r (eqb v (colour_no r)) ≡ write_on l p v
mark-sound l p r v s hp e off =
    subst (λ (x : List ℕ). mark_on x p r (eqb v (colour_no r)) ≡ write_on x p v) (sym (sound-lines l s))
    (mark-lines_of (cells_of l) p r v hp e off)

-- a stone added at an empty point is a put
pub add-write : (l : List ℕ) (p : ℕ) (r : Player) → Sound l → p < 225 → get_or (cells_of l) p 0 ≡ 0 → add_on l p r ≡ write_on l p (colour_no r)
add-write l p Black s hp e = mark-sound l p Black 1 s hp (rw e) refl
add-write l p White s hp e = mark-sound l p White 2 s hp (rw e) refl

-- the player's own stone lifted is a remove
pub lift-write : (l : List ℕ) (p : ℕ) (r : Player) → Sound l → p < 225 → get_or (cells_of l) p 0 ≡ colour_no r → lift_on l p r ≡ write_on l p 0
lift-write l p Black s hp e = mark-sound l p Black 0 s hp (rw e) refl
lift-write l p White s hp e = mark-sound l p White 0 s hp (rw e) refl

-- a trial stone, added at an empty point and lifted again, leaves the lines
pub trial-marked : (l : List ℕ) (p : ℕ) (r : Player) → Sound l → p < 225 → get_or (cells_of l) p 0 ≡ 0 → lift_on (add_on l p r) p r ≡ l
trial-marked l p r s hp e =
    let v = colour_no r in
    let n = length-cells_of l in
    ap (λ (x : List ℕ). lift_on x p r) (add-write l p r s hp e)
    ∙ lift-write (write_on l p v) p r (sound-write l p v s (colour-small r)) hp
    (ap (λ (x : List ℕ). get_or x p 0) (cells-write l p v s (colour-small r)) ∙ get_or-set_same (cells_of l) p v 0 (omega arith))
    ∙ trial r l p s e

-- ---- the lines of cells that are set one by one: a stone's value is added, and any other changes nothing

over : (v : ℕ) (r : Player) → eqb (suc (suc (suc v))) (colour_no r) ≡ false
over v Black = ne_eqb (suc (suc (suc v))) 1 (omega arith)
over v White = ne_eqb (suc (suc (suc v))) 2 (omega arith)

module _ (cells : List ℕ) (p v : ℕ) (long : length cells ≡ 225) (hp : p < 225) (none : get_or cells p 0 ≡ 0) where
  pub add-lines_of : is_colour v ≡ true → add_on (lines_of cells) p (player_of v) ≡ lines_of (set cells p v)
  add-lines_of h = go v h ∙ write-lines_of cells p v long
    where
      go : (v : ℕ) → is_colour v ≡ true → add_on (lines_of cells) p (player_of v) ≡ write_on (lines_of cells) p v
      go zero h = absurd (no_true h)
      go (suc zero) h = mark-lines_of cells p Black 1 hp (rw none) refl
      go (suc (suc zero)) h = mark-lines_of cells p White 2 hp (rw none) refl
      go (suc (suc (suc v))) h = absurd (no_true (rw (over v Black, over v White) at h))

  pub skip-lines_of : is_colour v ≡ false → lines_of cells ≡ lines_of (set cells p v)
  skip-lines_of h = lines_same cells (set cells p v) (λ r q hq. go r q (ℕ_discrete q p))
    where
      off : (r : Player) (v : ℕ) → is_colour v ≡ false → eqb 0 (colour_no r) ≡ eqb v (colour_no r)
      off Black zero h = refl
      off White zero h = refl
      off r (suc zero) h = absurd (no_true (sym h))
      off r (suc (suc zero)) h = absurd (no_true (sym h))
      off Black (suc (suc (suc v))) h = sym (over v Black)
      off White (suc (suc (suc v))) h = sym (over v White)

      go : (r : Player) (q : ℕ) → Dec (q ≡ p) → eqb (get_or cells q 0) (colour_no r) ≡ eqb (get_or (set cells p v) q 0) (colour_no r)
      go r q (yes e) = rw (e, none, get_or-set_same cells p v 0 (omega arith)) (off r v h)
      go r q (no e) = ap (λ (x : ℕ). eqb x (colour_no r)) (sym (get_or-set_other cells p q v 0 e))
