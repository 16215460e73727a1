-- Lines as values: what section 4 says of a line alone, with the refusals of section 2.
use Rattle.std.specs.Prelude.{Bool, ◌&&◌, List, ℕ, eqb, leb, ltb, Result}
use Rattle.rules.specs.Numbers.{kind_of}
use Rattle.rules.specs.Refusals.{unsound, no_place, unless, first, colour_refusal, kind_refusal}
use Rattle.rules.specs.Bit.{bit, mask_of, count_of}
use Rattle.rules.specs.Line.{Stones, inside, read_number, scores, holds, open_at, row_at, through, sound_line, segment_mask}
use Rattle.masks.specs.Masks.{placed}
use Rattle.lent.specs.Lists.{list_refusal, list_out}
use Rattle.rules.specs.declared.refusal.Refusal.{Refusal}
use Rattle.rules.specs.Answers.{answer}
use Rattle.line.specs.Lists.{window_list}
use Rattle.segment.specs.declared.segment.Segment.{Segment}
use Rattle.line.specs.declared.line.Line.{Line}
use Rattle.segment.specs.Segments.{mine}

-- which cells hold black stones, white stones, stones of a colour and stones of the other
abbrev pub blacks : Line → Stones
blacks l = bit l.blacks

abbrev pub whites : Line → Stones
whites l = bit l.whites

abbrev pub own : Line → ℕ → Stones
own l colour = bit (mine colour l.blacks l.whites)

abbrev pub other : Line → ℕ → Stones
other l colour = bit (mine colour l.whites l.blacks)

-- ---- refusals, in section 2's order: 10 for the size, 9, 12, 10 for the place

-- "10 .. line asked alone with size outside 5 to 15"
unfoldable pub size_refusal : ℕ → ℕ
size_refusal size = unless (leb 5 size && leb size 15) no_place

-- "9 .. unsound .. line"
unfoldable pub line_refusal : Line → ℕ
line_refusal l = first (size_refusal l.size) (unless (sound_line l.size (blacks l) (whites l)) unsound)

-- "10 .. a cell not on its line"
unfoldable pub cell_refusal : Line → ℕ → ℕ
cell_refusal l i = unless (ltb i l.size) no_place

-- "10 .. a segment asked at a start over size − 5"
unfoldable pub start_refusal : Line → ℕ → ℕ
start_refusal l j = unless (inside l.size j) no_place

-- the refusal of a question about a colour; about a colour's rows of a kind; about those through a cell
unfoldable pub line_refusal_for : Line → ℕ → ℕ
line_refusal_for l colour = first (line_refusal l) (colour_refusal colour)

unfoldable pub line_rows_refusal : Line → ℕ → ℕ → ℕ
line_rows_refusal l colour kind = first (line_refusal_for l colour) (kind_refusal kind)

unfoldable pub line_rows_on_refusal : Line → ℕ → ℕ → ℕ → ℕ
line_rows_on_refusal l i colour kind = first (line_rows_refusal l colour kind) (cell_refusal l i)

-- .. about a cell
unfoldable pub line_refusal_at : Line → ℕ → ℕ
line_refusal_at l i = first (line_refusal l) (cell_refusal l i)

-- ---- answers

abbrev pub empty_line : ℕ → Line
empty_line size = record { blacks = 0; whites = 0; size = size }

-- "Put replaces what stood there": the line with a cell as two tests say, one for Black and one for White
abbrev pub line_with : Line → ℕ → Bool → Bool → Line
line_with l i black white =
    record { blacks = mask_of 16 (placed (blacks l) i black); whites = mask_of 16 (placed (whites l) i white); size = l.size }

-- the segment of the window at j
abbrev pub segment_of : Line → ℕ → Segment
segment_of l j = record { blacks = segment_mask (blacks l) j; whites = segment_mask (whites l) j }

-- the window at j scores n for the colour; it is free for it and holds n of its stones; windows j−1 and j both score n, with an open end
abbrev pub scores_of : Line → ℕ → ℕ → ℕ → Bool
scores_of l colour n j = scores (eqb colour 1) l.size (own l colour) (other l colour) (read_number n) j

abbrev pub holds_of : Line → ℕ → ℕ → ℕ → Bool
holds_of l colour n j = holds l.size (own l colour) (other l colour) (read_number n) j

abbrev pub opens_of : Line → ℕ → ℕ → ℕ → Bool
opens_of l colour n j = open_at (eqb colour 1) l.size (own l colour) (other l colour) (read_number n) j

-- a row of the colour and the kind stands at j; it stands there and goes through cell i
abbrev pub line_rows_at : Line → ℕ → ℕ → ℕ → Bool
line_rows_at l colour kind j = row_at (eqb colour 1) l.size (own l colour) (other l colour) (kind_of kind) j

abbrev pub line_rows_on : Line → ℕ → ℕ → ℕ → ℕ → Bool
line_rows_on l i colour kind j = line_rows_at l colour kind j && through (kind_of kind) i j

-- ---- the starts that pass a test, with their segments, asked for into a lent buffer

-- how many there are, or the refusal
unfoldable pub windows_count : Line → ℕ → (ℕ → Bool) → List ℕ → Result ℕ Refusal
windows_count l refused starts out = answer (list_refusal refused out (window_list (blacks l) (whites l) starts)) (count_of 16 starts)

-- the buffer after it
unfoldable pub windows_out : Line → ℕ → (ℕ → Bool) → List ℕ → List ℕ
windows_out l refused starts out = list_out refused out (window_list (blacks l) (whites l) starts)
