-- What a text says (section 7, and requests 5 and 13): the 225 cells of a board, or the number of a refusal. The quoted sentences are
-- document 01's, and 02's where it is named.
use Rattle.std.specs.Prelude.{Bool, not, cond, List, [], ℕ, ◌-◌, eqb, leb, length, get_or}
use Rattle.rules.specs.Refusals.{no_column, over_length, wrong_count, wrong_size, unless, first}
use Rattle.rules.specs.Tools.{all_below, tab}
use Rattle.rules.specs.Point.{x_of, y_of}
use Rattle.cells.specs.Cells.{moves_cells, stones_cells}
use Rattle.text.specs.Bytes.{newline, slash, small_o, small_x, trim, has, before, behind, parts, dense, text_refusal}
use Rattle.text.specs.Points.{points_refusal, points_in}

-- ---- "Stones: two comma lists, black then white"

-- what stands before the first slash, and what stands between it and the second, or the end
abbrev pub black_list : List ℕ → List ℕ
black_list s = before slash s

abbrev pub white_list : List ℕ → List ℕ
white_list s = before slash (behind slash s)

-- "3 for a second "/", even with nothing behind it" (document 02): the number of an item without a letter
unfoldable pub slash_refusal : List ℕ → ℕ
slash_refusal s = unless (not (has slash (behind slash s))) no_column

-- ".. (after the two lists are read)": what stands behind the second slash is not read
unfoldable pub stones_text_refusal : List ℕ → ℕ
stones_text_refusal s = first (first (points_refusal (black_list s)) (points_refusal (white_list s))) (slash_refusal s)

unfoldable pub stones_in : List ℕ → List ℕ
stones_in s = stones_cells (points_in (black_list s)) (points_in (white_list s))

-- ---- "Moves alternate from Black; a point met again is overwritten."

unfoldable pub moves_in : List ℕ → List ℕ
moves_in s = moves_cells (points_in s)

-- ---- "Diagram: 15 lines parted by byte 10, from row 15 down, spaces dropped, 15 cells each": read by the converter alone (document 02: "a
-- separate converter reads them by document 01's diagram rules")

-- how many cells line k has
unfoldable pub size_at : List (List ℕ) → ℕ → ℕ
size_at lines k = length (dense (get_or lines k []))

-- "the count of lines (6), then size (7)": `full` says whether all have 15 cells
unfoldable pub count_refusal : ℕ → Bool → ℕ
count_refusal count full = first (unless (eqb count 15) wrong_count) (unless full wrong_size)

-- "Too long a line (5) is met before the count of lines (6), then size (7)."
unfoldable pub diagram_refusal : List (List ℕ) → ℕ
diagram_refusal lines =
    first (unless (all_below (length lines) (λ k. leb (size_at lines k) 15)) over_length)
    (count_refusal (length lines) (all_below (length lines) (λ k. eqb (size_at lines k) 15)))

-- "o black, x white, any other byte empty"
unfoldable pub letter_cell : ℕ → ℕ
letter_cell b = cond (eqb b small_o) 1 (cond (eqb b small_x) 2 0)

-- the cell of column x and row y stands on line 14 - y, at x
unfoldable pub diagram_cells : List (List ℕ) → List ℕ
diagram_cells lines = tab 225 (λ p. letter_cell (get_or (dense (get_or lines (14 - y_of p) [])) (x_of p) 0))

-- .. of a text that is a diagram, whatever bytes it has: a slash or a comma is an empty cell. "All are trimmed."
unfoldable pub diagram_text_refusal : List ℕ → ℕ
diagram_text_refusal s = first (text_refusal s) (diagram_refusal (parts newline (trim s)))

unfoldable pub diagram_text_cells : List ℕ → List ℕ
diagram_text_cells s = diagram_cells (parts newline (trim s))

-- ---- the live entry: "Text with "/" is stones; else .. moves. All are trimmed." and "text with no "/" and no "," is now one move"
-- (document 02), which is a list of one item (proofs/Lone.antt)

unfoldable pub form_refusal : List ℕ → ℕ
form_refusal s = cond (has slash s) (stones_text_refusal (trim s)) (points_refusal (trim s))

unfoldable pub read_cells : List ℕ → List ℕ
read_cells s = cond (has slash s) (stones_in (trim s)) (moves_in (trim s))

-- "Order: text 1, 2, then the first of" 3 and 4 "that the reading meets"; "5, 6 and 7 (now the converter's only)" (document 02)
unfoldable pub read_refusal : List ℕ → ℕ
read_refusal s = first (text_refusal s) (form_refusal s)
