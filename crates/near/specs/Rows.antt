-- The rows through a point by the masks of its four lines, and the start masks that are handed on.
use Rattle.std.specs.Prelude.{◌≡◌, Bool, ◌&&◌, ◌||◌, List, ℕ, ltb, get_or}
use Rattle.rules.specs.Bit.{bit}
use Rattle.rules.specs.Line.{Stones, row_at, through}
use Rattle.rules.specs.Point.{line_no, cell_no, line_size}
use Rattle.rules.specs.Grid.{Starts, start_masks}
use Rattle.rules.specs.Forbidden.{some_row, more_than_one}
use Rattle.rules.specs.declared.RowKind.{RowKind}
use Rattle.rules.specs.declared.RowKind.TheVariants.{Two, Sword, Four, Overlining}
use Rattle.near.specs.declared.rows.Rows.{Rows}

-- the stones that four masks show on the line through p in direction d; what lies past its end is none
unfoldable pub stones_shown : List ℕ → ℕ → ℕ → Stones
stones_shown masks p d j = ltb j (line_size d (line_no d p)) && bit (get_or masks d 0) j

-- the rows of a kind through p, by the masks of the own stones and of the other colour's
unfoldable pub seen : Bool → List ℕ → List ℕ → ℕ → RowKind → Starts
seen black own other p kind d j =
    through kind (cell_no d p) j && row_at black (line_size d (line_no d p)) (stones_shown own p d) (stones_shown other p d) kind j

-- r has the start masks of the rows of four kinds
pub record RowsAre (rows : RowKind → Starts) (r : Rows) : Type 0 where
  pub fours : r.fours ≡ start_masks (rows Four)
  pub overlinings : r.overlinings ≡ start_masks (rows Overlining)
  pub swords : r.swords ≡ start_masks (rows Sword)
  pub twos : r.twos ≡ start_masks (rows Two)

-- some kind may apply where Black's rows are these, by the tests of section 5 that need no nested question (may_forbid, of a board's rows)
unfoldable pub may_apply : (RowKind → Starts) → Bool
may_apply rows = some_row (rows Overlining) || more_than_one (rows Sword) || more_than_one (rows Two)
