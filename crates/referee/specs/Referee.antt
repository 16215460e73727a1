-- Section 5's questions as the code asks them. Of what is said here of masks and of lines, public statements cite `rows_by` and `eye_by`
-- alone, for lines that may be unsound.
use Rattle.std.specs.Prelude.{◌≡◌, true, ◌&&◌, cond, List, ℕ, ◌+◌, ◌-◌, ◌*◌, ◌%◌, ◌<◌, T, get_or}
use Rattle.rules.specs.Tools.{any_below}
use Rattle.rules.specs.Bit.{bit, mask_of}
use Rattle.rules.specs.Point.{line_no, step_of}
use Rattle.rules.specs.Grid.{Starts, stone_at, start_masks, starts_of, numbered, rows_through}
use Rattle.rules.specs.Forbidden.{some_row, more_than_one, with_black, real_threes, real_double, first_kind, gap_from, strict_of}
use Rattle.rules.specs.declared.Player.{Player}
use Rattle.rules.specs.declared.Player.TheVariants.{Black, White}
use Rattle.rules.specs.declared.RowKind.{RowKind}
use Rattle.rules.specs.declared.RowKind.TheVariants.{Two, Three}
use Rattle.rules.specs.declared.Verdict.{Verdict}
use Rattle.rules.specs.declared.Verdict.TheVariants.{None}
use Rattle.point.specs.Places.{has_place, place_of}
use Rattle.near.specs.Rows.{seen}
use Rattle.near.specs.declared.rows.Rows.{Rows}
use Rattle.grid.specs.Lines.{cells_of, Sound, mask_on, masks_through}
use Rattle.board.specs.Boards.{cells, board_refusal}
use Rattle.board.specs.declared.board.Board.{Board}

-- Section 5's order by the start masks of the rows through p; l is asked only where more than one Two goes through it
unfoldable pub plain_by : List ℕ → ℕ → Rows → Verdict
plain_by l p r =
    first_kind (some_row (starts_of r.overlinings)) (more_than_one (starts_of r.swords))
    (more_than_one (starts_of r.twos) && real_double strict_of (with_black (cells_of l) p) p)

unfoldable pub strict_by : List ℕ → ℕ → Rows → Verdict
strict_by l p r = cond (some_row (starts_of r.fours)) None (plain_by l p r)

-- ---- the same questions of any lines, sound or not, as their masks say

-- Black's rows through p
abbrev pub rows_by : List ℕ → ℕ → RowKind → Starts
rows_by l p = seen true (masks_through l p Black) (masks_through l p White) p

-- in bytes, of which 0 comes behind 255: so far back from p, and so far on
unfoldable pub walk_by : ℕ → ℕ → ℕ → ℕ
walk_by p back on = ((p + (256 - back % 256)) % 256 + on % 256) % 256

-- from p back to its line's first cell, and on to the first gap in Black's stones from cell j on
abbrev pub eye_by : List ℕ → ℕ → ℕ → ℕ → ℕ
eye_by l p d j =
    walk_by p ((place_of d p).cell * step_of d) (gap_from (bit (mask_on Black l (place_of d p).key)) j * step_of d)

-- ----

-- a stone may be tried at p on these lines, where these are the starts of the Twos
pub record Triable (l : List ℕ) (p : ℕ) (twos : List ℕ) : Type 0 where
  pub sound : Sound l
  pub free : get_or (cells_of l) p 0 ≡ 0
  pub starts : twos ≡ start_masks (rows_through Black Two (cells_of l) p)

-- what is known of the real Threes through p: those of `sure` are real, and all that are real are among `left`, which are Threes. Starts
-- are named by their numbers.
pub record KnownOf (cells : List ℕ) (p : ℕ) (sure left : List ℕ) : Type 0 where
  pub real : (k : ℕ) → k < 64 → T (numbered (starts_of sure) k) → T (numbered (real_threes strict_of cells p) k)
  pub all : (k : ℕ) → k < 64 → T (numbered (real_threes strict_of cells p) k) → T (numbered (starts_of left) k)
  pub threes : (k : ℕ) → k < 64 → T (numbered (starts_of left) k) → T (numbered (rows_through Black Three cells p) k)

-- m has the player's masks of the stored lines through p
unfoldable pub MasksOf : Player → List ℕ → ℕ → List ℕ → Type 0
MasksOf r cells p m = (d : ℕ) → d < 4 → T (has_place d p) → get_or m d 0 ≡ mask_of 16 (stone_at r cells d (line_no d p))

-- the columns that have a mark
unfoldable pub columns_of : List ℕ → ℕ
columns_of m = mask_of 16 (λ x. any_below 26 (λ i. bit (get_or m i 0) x))

-- a board that is not refused holds v at the point p
pub record HoldsAt (b : Board) (p v : ℕ) : Type 0 where
  pub sound : board_refusal b ≡ 0
  pub point : p < 225
  pub value : get_or (cells b) p 0 ≡ v
