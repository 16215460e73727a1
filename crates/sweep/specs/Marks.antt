-- Marks: what is said of all points of a board at once, 26 masks of which bit x of mask y + 5 is the point (x, y). The masks before and
-- behind are empty, so that five steps from a point, in any direction, stay among them.
use Rattle.std.specs.Prelude.{◌≡◌, Bool, true, ◌&&◌, cond, List, ℕ, zero, suc, ◌+◌, ◌-◌, T, eqb, leb, ltb, get_or, length}
use Rattle.rules.specs.Tools.{tab}
use Rattle.rules.specs.Bit.{bit, mask_of}
use Rattle.rules.specs.Line.{Stones, among, scores, holds, row_at}
use Rattle.rules.specs.Point.{x_of, y_of, code_of, line_no, cell_no, line_size, point_at}
use Rattle.rules.specs.Grid.{is_empty, Starts}
use Rattle.rules.specs.Forbidden.{may_forbid}
use Rattle.rules.specs.declared.RowKind.{RowKind}
use Rattle.rules.specs.declared.RowKind.TheVariants.{Two, Sword, Overlining}

-- bit x of mask i is a point of the board
unfoldable pub on_board : ℕ → ℕ → Bool
on_board i x = leb 5 i && ltb i 20 && ltb x 15

-- mask i of the marks of the points that pass a test
unfoldable pub row_mask : (ℕ → Bool) → ℕ → ℕ
row_mask f i = mask_of 16 (λ x. on_board i x && f (code_of x (i - 5)))

-- the marks of the points that pass a test
unfoldable pub marks : (ℕ → Bool) → List ℕ
marks f = tab 26 (row_mask f)

-- a point to ask about: of 225 cells, empty, and some kind may apply there
unfoldable pub asked_at : List ℕ → ℕ → Bool
asked_at cells p = eqb (length cells) 225 && is_empty (get_or cells p 0) && may_forbid cells p

-- ---- marks as tests of points, and along a line

-- p is marked
unfoldable pub is_marked : List ℕ → ℕ → Bool
is_marked m p = bit (get_or m (y_of p + 5) 0) (x_of p)

-- no mark is off the board
pub record Marked (m : List ℕ) : Type 0 where
  pub whole : m ≡ marks (is_marked m)

-- the test that every point passes
unfoldable pub every_point : ℕ → Bool
every_point p = true

-- the points that pass a test, of those with codes below n
unfoldable pub codes_below : ℕ → (ℕ → Bool) → ℕ → Bool
codes_below n f p = ltb p n && f p

-- p's cell has this value
unfoldable pub has_value : List ℕ → ℕ → ℕ → Bool
has_value cells value p = eqb (get_or cells p 0) value

-- a mask says of each point of row i whether it passes a test; its bits off the board say nothing
pub record Says (m i : ℕ) (f : ℕ → Bool) : Type 0 where
  pub at : (x : ℕ) → T (on_board i x) → bit m x ≡ f (code_of x (i - 5))

-- cell j of line i is a point that passes a test
unfoldable pub along_line : (ℕ → Bool) → ℕ → ℕ → Stones
along_line f d i j = ltb j (line_size d i) && f (point_at d i j)

-- the line through p, cell by cell
abbrev pub marked_line : (ℕ → Bool) → ℕ → ℕ → Stones
marked_line f d p = along_line f d (line_no d p)

-- the point k cells after p on its line passes, and the one k cells before it
unfoldable pub ahead_of : (ℕ → Bool) → ℕ → ℕ → ℕ → Bool
ahead_of f d k p = marked_line f d p (cell_no d p + k)

unfoldable pub back_of : (ℕ → Bool) → ℕ → ℕ → ℕ → Bool
back_of f d k p = leb k (cell_no d p) && marked_line f d p (cell_no d p - k)

-- ---- windows that start at a point, of Black's marks and White's

-- its score is n
unfoldable pub scores_from : (ℕ → Bool) → (ℕ → Bool) → ℕ → ℕ → ℕ → Bool
scores_from blacks whites d n p = scores true (line_size d (line_no d p)) (marked_line blacks d p) (marked_line whites d p) n (cell_no d p)

-- it is free and holds n
unfoldable pub holds_from : (ℕ → Bool) → (ℕ → Bool) → ℕ → ℕ → ℕ → Bool
holds_from blacks whites d n p = holds (line_size d (line_no d p)) (marked_line blacks d p) (marked_line whites d p) n (cell_no d p)

-- The windows that score 2, those that score 3, and those that are free and hold 4. `told` makes of a test of points what tells it: the
-- mask of a row of points, or the marks of all.
pub record Scored {A : Type 0} (told : (ℕ → Bool) → A) (blacks whites : ℕ → Bool) (d : ℕ) (two three four : A) : Type 0 where
  pub twos : two ≡ told (scores_from blacks whites d 2)
  pub threes : three ≡ told (scores_from blacks whites d 3)
  pub fours : four ≡ told (holds_from blacks whites d 4)

-- the windows that start at p and one cell before it both pass
unfoldable pub pair_from : (ℕ → Bool) → ℕ → ℕ → Bool
pair_from w d p = w p && back_of w d 1 p

-- a row of the kind starts at p
unfoldable pub row_from : (ℕ → Bool) → (ℕ → Bool) → RowKind → ℕ → ℕ → Bool
row_from blacks whites k d p = row_at true (line_size d (line_no d p)) (marked_line blacks d p) (marked_line whites d p) k (cell_no d p)

-- three lists of marks: where the rows of three kinds start
pub record AllRows (blacks whites : ℕ → Bool) (d : ℕ) (two sword overlining : List ℕ) : Type 0 where
  pub twos : two ≡ marks (row_from blacks whites Two d)
  pub swords : sword ≡ marks (row_from blacks whites Sword d)
  pub overs : overlining ≡ marks (row_from blacks whites Overlining d)

-- ---- rows through a point, of the marks of the points where rows start

-- a row counts as five cells from its start, or as the four that its two windows share
abbrev pub cells_if : Bool → ℕ
cells_if five = cond five 5 4

-- the rows of n cells on the line through p that go through p, by their starts
unfoldable pub starts_through : ℕ → (ℕ → Bool) → ℕ → ℕ → ℕ → Bool
starts_through n row d p j = among n j (cell_no d p) && marked_line row d p j

-- one of four lists of marks, by the direction
abbrev pub marks_in : List ℕ → List ℕ → List ℕ → List ℕ → ℕ → List ℕ
marks_in v h a d zero = v
marks_in v h a d (suc zero) = h
marks_in v h a d (suc (suc zero)) = a
marks_in v h a d (suc (suc (suc k))) = d

-- those on the four lines through p, a list of marks for each
unfoldable pub all_through : ℕ → (ℕ → List ℕ) → ℕ → Starts
all_through n m p d = starts_through n (is_marked (m d)) d p
