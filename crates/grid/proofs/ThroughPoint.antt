-- The masks of the lines through a point, read off sound lines, are those of the cells. Assumes nothing.
use mathlib.Core.Path.{◌≡◌, ap₂, ◌∙◌}
use mathlib.Core.Bool.{true}
use mathlib.Core.List.{List}
use Prim.Native.Nat.{ℕ, ◌<◌}
use lib.Dec.{T}
use lib.ListN.{get_or}
use Rattle.rules.specs.Bit.{mask_of}
use Rattle.rules.specs.Point.{line_no, key_at}
use Rattle.rules.specs.Grid.{stone_at}
use Rattle.rules.specs.declared.Player.{Player}
use Rattle.rules.proofs.Logic.{T_true}
use Rattle.rules.proofs.Lists.{get_d-tab}
use Rattle.point.specs.Places.{has_place}
use Rattle.grid.specs.Lines.{mask_through, masks_through, cells_of, Sound}
use Rattle.grid.proofs.Lines.{line_at, mask-sound}

module _ (l : List ℕ) (p : ℕ) (r : Player) (d : ℕ) where
  pub through-at : d < 4 → get_or (masks_through l p r) d 0 ≡ mask_through l p r d
  unfolding masks_through
  through-at hd = get_d-tab 4 (mask_through l p r) d hd

  -- where the line is stored, the mask is that of the player's stones on it
  pub mask-through : Sound l → p < 225 → d < 4 → T (has_place d p)
      → get_or (masks_through l p r) d 0 ≡ mask_of 16 (stone_at r (cells_of l) d (line_no d p))
  mask-through s hp hd t =
      let th = line_at d p hd t in
      let e : has_place d p ≡ true = T_true t in
      through-at hd
      ∙ rw e (mask-sound r l (key_at d p) s th.key
      ∙ ap₂ (λ (x y : ℕ). mask_of 16 (stone_at r (cells_of l) x y)) th.dir th.no)
