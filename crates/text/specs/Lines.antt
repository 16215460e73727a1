-- A line in text (section 7): "spaces dropped .. o black, x white, any other byte empty".
use Rattle.std.specs.Prelude.{List, ℕ, eqb, leb, length, get_or}
use Rattle.rules.specs.Refusals.{over_length, unless, first}
use Rattle.rules.specs.Bit.{mask_of}
use Rattle.line.specs.declared.line.Line.{Line}
use Rattle.text.specs.Bytes.{small_o, small_x, dense, text_refusal}

-- 5 for "a diagram line over 15 cells"
unfoldable pub length_refusal : List ℕ → ℕ
length_refusal s = unless (leb (length (dense s)) 15) over_length

-- the cells of a line that hold the letter d, as a mask
unfoldable pub marked : ℕ → List ℕ → ℕ
marked d s = mask_of 16 (λ i. eqb (get_or (dense s) i 0) d)

-- the line that a text of at most 15 cells says
unfoldable pub line_in : List ℕ → Line
line_in s = record { blacks = marked small_o s; whites = marked small_x s; size = length (dense s) }

-- of a text that is a line alone: first what is refused of any text
unfoldable pub line_text_refusal : List ℕ → ℕ
line_text_refusal s = first (text_refusal s) (length_refusal s)
