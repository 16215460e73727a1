-- Section 7's texts, byte by byte. A cell's value is 0 empty, 1 black, 2 white.
use Rattle.std.specs.Prelude.{Bool, ◌||◌, cond, List, [], ◌∷◌, ◌++◌, ℕ, ◌+◌, ◌-◌, ◌*◌, ◌/◌, ◌%◌, eqb, leb, ltb, length, get_or}
use Rattle.rules.specs.Bit.{bit}
use Rattle.rules.specs.Line.{Stones}
use Rattle.rules.specs.Grid.{value_of}
use Rattle.rules.specs.Point.{x_of, y_of, code_of}
use Rattle.rules.specs.Tools.{gather, only}
use Rattle.segment.specs.declared.segment.Segment.{Segment}
use Rattle.line.specs.declared.line.Line.{Line}
use Rattle.line.specs.Lines.{blacks, whites}
use Rattle.text.specs.Bytes.{newline, blank, comma, dash, dot, digit_zero, capital_a, small_o, small_x, bar}

-- ---- numbers and points

-- a digit
abbrev pub digit_text : ℕ → List ℕ
digit_text d = (digit_zero + d) ∷ []

-- a number below 1000, without leading zeros: hundreds from 100 on, tens from 10 on, ones
unfoldable pub number_text : ℕ → List ℕ
number_text n = only (leb 100 n) (digit_text (n / 100)) ++ only (leb 10 n) (digit_text (n / 10 % 10)) ++ digit_text (n % 10)

-- a number below 100 in two places, after a space where one digit is enough
unfoldable pub right_aligned : ℕ → List ℕ
right_aligned n = only (ltb n 10) (blank ∷ []) ++ number_text n

-- a letter from A on for x, and the row: "A1 is 0, H8 is 112, O15 is 224."; a code over 224 names no point and has no text
unfoldable pub point_text : ℕ → List ℕ
point_text code = only (ltb code 225) ((capital_a + x_of code) ∷ number_text (y_of code + 1))

-- a point of a list, after a comma where it is behind another
unfoldable pub item_text : Bool → ℕ → List ℕ
item_text behind code = only behind (comma ∷ []) ++ point_text code

abbrev pub point_item : List ℕ → ℕ → List ℕ
point_item codes i = item_text (ltb 0 i) (get_or codes i 0)

unfoldable pub points_text : List ℕ → List ℕ
points_text codes = gather (length codes) (point_item codes)

-- ---- cells

-- "o black, x white", else the byte for empty
unfoldable pub letter_or : ℕ → ℕ → ℕ
letter_or empty value = cond (eqb value 1) small_o (cond (eqb value 2) small_x empty)

-- the values of cells on which black or white stones stand
abbrev pub values_of : Stones → Stones → ℕ → ℕ
values_of black white i = value_of (black i) (white i)

-- ---- lines: "each cell a space and o, x or ".""

abbrev pub cell_text : (ℕ → ℕ) → ℕ → List ℕ
cell_text value i = blank ∷ letter_or dot (value i) ∷ []

unfoldable pub line_text : ℕ → (ℕ → ℕ) → List ℕ
line_text size value = gather size (cell_text value)

-- a line by value
unfoldable pub text_of_line : Line → List ℕ
text_of_line l = line_text l.size (values_of (blacks l) (whites l))

-- the cells `first`, `first + step`, .. of a list
abbrev pub stepped : List ℕ → ℕ → ℕ → ℕ → ℕ
stepped cells first step i = get_or cells (first + step * i) 0

-- ---- segments: seven cells, a dash for empty, a bar before the five cells and behind them

unfoldable pub bar_before : ℕ → Bool
bar_before k = eqb k 1 || eqb k 6

unfoldable pub barred : ℕ → ℕ → List ℕ
barred k value = only (bar_before k) (bar ∷ []) ++ (letter_or dash value ∷ [])

abbrev pub barred_cell : (ℕ → ℕ) → ℕ → List ℕ
barred_cell value k = barred k (value k)

unfoldable pub segment_text : (ℕ → ℕ) → List ℕ
segment_text value = gather 7 (barred_cell value)

unfoldable pub text_of_segment : Segment → List ℕ
text_of_segment s = segment_text (values_of (bit s.blacks) (bit s.whites))

-- ---- diagrams of 225 cells

-- the cells of horizontal line y
unfoldable pub row_text : List ℕ → ℕ → List ℕ
row_text cells y = line_text 15 (λ x. get_or cells (code_of x y) 0)

-- "Plain diagram output: .. lines joined by byte 10": rows 15 down to 1
unfoldable pub plain_row : List ℕ → ℕ → List ℕ
plain_row cells k = row_text cells (14 - k) ++ only (ltb k 14) (newline ∷ [])

unfoldable pub diagram_of : List ℕ → List ℕ
diagram_of cells = gather 15 (plain_row cells)

-- "The numbered form": each row after its number
unfoldable pub numbered_row : List ℕ → ℕ → List ℕ
numbered_row cells k = right_aligned (15 - k) ++ row_text cells (14 - k) ++ (newline ∷ [])

-- three spaces, and the letters A to O of the columns, joined by spaces
unfoldable pub columns_text : List ℕ
columns_text = (blank ∷ blank ∷ blank ∷ []) ++ gather 15 (λ x. only (ltb 0 x) (blank ∷ []) ++ ((capital_a + x) ∷ []))

unfoldable pub numbered_of : List ℕ → List ℕ
numbered_of cells = gather 15 (numbered_row cells) ++ columns_text
