-- Boards as values, by their cells, and the refusals about them (section 2). The quoted sentences are document 01's, and of the counts
-- document 02's, No. 7.
use Rattle.std.specs.Prelude.{◌≡◌, Bool, ◌&&◌, cond, List, ℕ, ◌+◌, ◌-◌, eqb, ltb}
use Rattle.rules.specs.Refusals.{unsound, unless, first, code_refusal, colour_refusal, kind_refusal}
use Rattle.rules.specs.Bit.{count_of}
use Rattle.rules.specs.Point.{x_of, y_of}
use Rattle.rules.specs.declared.Player.{Player}
use Rattle.rules.specs.declared.Player.TheVariants.{Black, White}
use Rattle.cells.specs.Counts.{stones_count}
use Rattle.grid.specs.Lines.{shows, cells_of, lines_of, lines_refusal}
use Rattle.grid.specs.Agreed.{Agreed}
use Rattle.board.specs.declared.board.Board.{Board}

-- ---- a board is made here: "The board record gains both counts."

abbrev pub board_with : List ℕ → ℕ → ℕ → Board
board_with lines blacks whites = record { lines = lines; blacks = blacks; whites = whites }

-- the 225 cells of a board, and the board of 225 cells
abbrev pub cells : Board → List ℕ
cells b = cells_of b.lines

unfoldable pub board_of : List ℕ → Board
board_of cells = board_with (lines_of cells) (stones_count Black cells) (stones_count White cells)

-- the points at which the columns of any lines show the player's stone, counted; on sound lines these are the points with that colour
-- (proofs/Counted.antt, stones-shown)
unfoldable pub stones_shown : Player → List ℕ → ℕ
stones_shown r l = count_of 225 (λ p. shows r l (x_of p) (y_of p))

-- the board that has these lines
abbrev pub board_from : List ℕ → Board
board_from lines = board_with lines (stones_shown Black lines) (stones_shown White lines)

-- a board with other lines in place of its own, and the same counts
abbrev pub with_lines : Board → List ℕ → Board
with_lines b lines = board_with lines b.blacks b.whites

-- A count after one point is changed, which held the colour (off) and holds it now (on): "Overwriting a colour moves one from one count to
-- the other; putting the same colour again or removing from an empty point changes none." A byte's last number stays.
abbrev pub one_more : ℕ → ℕ
one_more n = cond (ltb n 255) (n + 1) n

unfoldable pub moved_count : ℕ → Bool → Bool → ℕ
moved_count n off on = cond off (cond on n (n - 1)) (cond on (one_more n) n)

-- a board with lines that differ from its own at one point, by what stood there and what stands there now
abbrev pub changed_board : Board → List ℕ → ℕ → ℕ → Board
changed_board b lines before after =
    board_with lines (moved_count b.blacks (eqb before 1) (eqb after 1)) (moved_count b.whites (eqb before 2) (eqb after 2))

-- ---- refusals, in section 2's order: 9, 8, 12

-- "9 also covers counts that disagree."
unfoldable pub counts_refusal : Board → ℕ
counts_refusal b = unless (eqb b.blacks (stones_count Black (cells b)) && eqb b.whites (stones_count White (cells b))) unsound

-- "9 .. unsound board"
unfoldable pub board_refusal : Board → ℕ
board_refusal b = first (lines_refusal b.lines) (counts_refusal b)

-- "A board is sound when its 72 lines have their right sizes .., no bit outside a line, no cell with both colours, and every stored line
-- through a point agrees on that point." "A sound board is now also one whose counts are the numbers of points with that colour, defined on
-- the points themselves."
pub record AgreedBoard (b : Board) : Type 0 where
  pub lines : Agreed b.lines
  pub blacks : b.blacks ≡ stones_count Black (cells b)
  pub whites : b.whites ≡ stones_count White (cells b)

-- A board is not refused exactly when this holds of it (proofs/Given.antt, refused-unless-agreed).
pub record RefusedUnlessAgreed (b : Board) : Type 0 where
  pub agreed : board_refusal b ≡ 0 → AgreedBoard b
  pub unrefused : AgreedBoard b → board_refusal b ≡ 0

-- of a question about a point; about a colour at a point; about a colour's rows of a kind through it
unfoldable pub refusal_at : Board → ℕ → ℕ
refusal_at b p = first (board_refusal b) (code_refusal p)

unfoldable pub refusal_for : Board → ℕ → ℕ → ℕ
refusal_for b p colour = first (refusal_at b p) (colour_refusal colour)

unfoldable pub rows_on_refusal : Board → ℕ → ℕ → ℕ → ℕ
rows_on_refusal b p colour kind = first (refusal_for b p colour) (kind_refusal kind)
