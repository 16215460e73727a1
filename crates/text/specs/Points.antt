-- A point in text, and a comma list of them (section 7, and request 5). An item of a list is the text of one point. The quoted sentences
-- are document 01's, and 02's where it is named.
use Rattle.std.specs.Prelude.{◌&&◌, cond, List, [], ◌∷◌, ℕ, ◌+◌, ◌*◌, ◌-◌, eqb, leb, ltb, length, get_or, drop, Option, Some, None, Result}
use Rattle.rules.specs.Refusals.{no_column, no_row, unless, first}
use Rattle.rules.specs.Answers.{answer, refusal_named}
use Rattle.rules.specs.Point.{code_of}
use Rattle.rules.specs.declared.refusal.Refusal.{Refusal}
use Rattle.text.specs.Bytes.{comma, digit_zero, digit_nine, capital_a, capital_o, small_a, small_o, trim, parts, text_refusal}
use Rattle.text.specs.declared.points.Leading.{Leading}
use Rattle.text.specs.declared.points.Slip.{Slip}

-- ---- a point

-- "a letter A to O or a to o": the column, 0 to 14, and 15 for any other byte
unfoldable pub column_of : ℕ → ℕ
column_of b =
    cond (leb capital_a b && leb b capital_o) (b - capital_a) (cond (leb small_a b && leb b small_o) (b - small_a) 15)

-- the value of a digit, and 16 for any other byte: no number with such a byte is 1 to 15
unfoldable pub digit_value : ℕ → ℕ
digit_value b = cond (leb digit_zero b && leb b digit_nine) (b - digit_zero) 16

-- "exactly one letter and one or two digits after trimming: no plus sign and nothing behind. H08 stays good" (document 02): the number of
-- what stands behind the letter, and 0 where that is nothing or more than two bytes
unfoldable pub number_of : List ℕ → ℕ
number_of [] = 0
number_of (b ∷ []) = digit_value b
number_of (b ∷ e ∷ []) = 10 * digit_value b + digit_value e
number_of (b ∷ e ∷ f ∷ s) = 0

-- the column and the row's number that a text names
unfoldable pub column_in : List ℕ → ℕ
column_in s = column_of (get_or (trim s) 0 0)

unfoldable pub row_in : List ℕ → ℕ
row_in s = number_of (drop 1 (trim s))

-- 3 for the letter, then 4 for "a number 1 to 15"
unfoldable pub place_refusal : ℕ → ℕ → ℕ
place_refusal x n = first (unless (ltb x 15) no_column) (unless (leb 1 n && leb n 15) no_row)

unfoldable pub item_refusal : List ℕ → ℕ
item_refusal s = place_refusal (column_in s) (row_in s)

unfoldable pub item_code : List ℕ → ℕ
item_code s = code_of (column_in s) (row_in s - 1)

-- the point of a column and a row, or the refusal
unfoldable pub item_at : ℕ → ℕ → Result ℕ Refusal
item_at x n = answer (place_refusal x n) (code_of x (n - 1))

-- ---- a comma list

-- the first refusal that its items meet, and the codes of the points that they name
unfoldable pub items_refusal : List (List ℕ) → ℕ
items_refusal [] = 0
items_refusal (s ∷ ss) = first (item_refusal s) (items_refusal ss)

unfoldable pub item_codes : List (List ℕ) → List ℕ
item_codes [] = []
item_codes (s ∷ ss) = item_code s ∷ item_codes ss

-- the codes of the items before the first that is refused
unfoldable pub leading_codes : List (List ℕ) → List ℕ
leading_codes [] = []
leading_codes (s ∷ ss) = cond (eqb (item_refusal s) 0) (item_code s ∷ leading_codes ss) []

-- that item's number, from 1; 0 where none is refused
unfoldable pub slip_number : List (List ℕ) → ℕ
slip_number ss = cond (eqb (items_refusal ss) 0) 0 (length (leading_codes ss) + 1)

-- .. of a text, whose items stand between its commas
unfoldable pub points_refusal : List ℕ → ℕ
points_refusal s = items_refusal (parts comma (trim s))

unfoldable pub points_in : List ℕ → List ℕ
points_in s = item_codes (parts comma (trim s))

unfoldable pub leading_in : List ℕ → List ℕ
leading_in s = leading_codes (parts comma (trim s))

unfoldable pub slip_in : List ℕ → ℕ
slip_in s = slip_number (parts comma (trim s))

-- of a text that is a point alone, or a list alone: first what is refused of any text

unfoldable pub point_text_refusal : List ℕ → ℕ
point_text_refusal s = first (text_refusal s) (item_refusal s)

unfoldable pub list_text_refusal : List ℕ → ℕ
list_text_refusal s = first (text_refusal s) (points_refusal s)

-- ---- what is given back of a list, up to its first refused item

-- the refused item, by its number, and why; none where nothing is refused
unfoldable pub slip_at : ℕ → ℕ → Option Slip
slip_at refused item = cond (eqb refused 0) None (Some (record { item = item; refusal = refusal_named refused }))

-- of the text of a list; a text that is a list alone is read where it is not refused as any text is
unfoldable pub list_found : List ℕ → Leading
list_found s = record { codes = leading_in s; slip = slip_at (points_refusal s) (slip_in s) }
