-- What a sound board is in section 1's words, line by line. That such lines are those of their own cells, and no others are, is proved
-- (proofs/Agreed.antt). The quoted sentences are document 01's.
use Rattle.std.specs.Prelude.{◌≡◌, false, ◌&&◌, List, ℕ, ◌^◌, ◌≤◌, ◌<◌, T, length, get_or}
use Rattle.rules.specs.Point.{cell_no, key_at, key_size}
use Rattle.rules.specs.declared.Player.{Player}
use Rattle.rules.specs.declared.Player.TheVariants.{Black, White}
use Rattle.point.specs.Places.{has_place}
use Rattle.grid.specs.Lines.{shows}

-- what section 1 asks of a board's lines (their sizes are those of their keys): "no bit outside a line, no cell with both colours, and
-- every stored line through a point agrees on that point"
pub record Agreed (l : List ℕ) : Type 0 where
  pub long : length l ≡ 144
  pub small : (e : ℕ) → e < 144 → get_or l e 0 < 2 ^ 16
  pub outside : (r : Player) (k j : ℕ) → k < 72 → key_size k ≤ j → shows r l k j ≡ false
  pub one : (k j : ℕ) → k < 72 → (shows Black l k j && shows White l k j) ≡ false
  pub agree : (r : Player) (c d p : ℕ) → c < 4 → d < 4 → T (has_place c p) → T (has_place d p)
      → shows r l (key_at c p) (cell_no c p) ≡ shows r l (key_at d p) (cell_no d p)
