-- Section 7's listing: "each forbidden point with its kind in code order, then the count, each line ended by byte 10; a refusal is
-- `refused N` alone".
use Rattle.std.specs.Prelude.{cond, List, [], ◌∷◌, ◌++◌, ℕ, ◌+◌, ◌*◌, ◌/◌, eqb, length, get_or}
use Rattle.rules.specs.Tools.{gather}
use Rattle.rules.specs.Forbidden.{forbidden_list}
use Rattle.text.specs.Bytes.{newline, blank}
use Rattle.text.specs.Reading.{read_refusal, read_cells}
use Rattle.display.specs.Texts.{number_text, point_text}

-- ---- the words, as bytes

unfoldable pub double_three : List ℕ
double_three = 68 ∷ 111 ∷ 117 ∷ 98 ∷ 108 ∷ 101 ∷ 84 ∷ 104 ∷ 114 ∷ 101 ∷ 101 ∷ []

unfoldable pub double_four : List ℕ
double_four = 68 ∷ 111 ∷ 117 ∷ 98 ∷ 108 ∷ 101 ∷ 70 ∷ 111 ∷ 117 ∷ 114 ∷ []

unfoldable pub overline : List ℕ
overline = 79 ∷ 118 ∷ 101 ∷ 114 ∷ 108 ∷ 105 ∷ 110 ∷ 101 ∷ []

unfoldable pub forbidden_word : List ℕ
forbidden_word = 102 ∷ 111 ∷ 114 ∷ 98 ∷ 105 ∷ 100 ∷ 100 ∷ 101 ∷ 110 ∷ 32 ∷ []

unfoldable pub refused_word : List ℕ
refused_word = 114 ∷ 101 ∷ 102 ∷ 117 ∷ 115 ∷ 101 ∷ 100 ∷ 32 ∷ []

-- "1 DoubleThree, 2 DoubleFour, 3 Overline"
unfoldable pub kind_text : ℕ → List ℕ
kind_text kind = cond (eqb kind 1) double_three (cond (eqb kind 2) double_four overline)

-- ---- the lines

-- a point and its kind, as "H8 DoubleThree"
unfoldable pub point_line : ℕ → ℕ → List ℕ
point_line kind code = point_text code ++ (blank ∷ []) ++ kind_text kind ++ (newline ∷ [])

-- a word and a number, as "forbidden 1"
unfoldable pub count_text : List ℕ → ℕ → List ℕ
count_text word n = word ++ number_text n ++ (newline ∷ [])

-- line i of a list of pairs, kind and code
abbrev pub pair_text : List ℕ → ℕ → List ℕ
pair_text pairs i = point_line (get_or pairs (2 * i) 0) (get_or pairs (2 * i + 1) 0)

unfoldable pub lines_text : List ℕ → ℕ → List ℕ
lines_text pairs n = gather n (pair_text pairs)

unfoldable pub list_text : List ℕ → List ℕ
list_text pairs = lines_text pairs (length pairs / 2) ++ count_text forbidden_word (length pairs / 2)

-- ---- the listing of a text

unfoldable pub listing_of : List ℕ → List ℕ
listing_of s = cond (eqb (read_refusal s) 0) (list_text (forbidden_list (read_cells s))) (count_text refused_word (read_refusal s))
