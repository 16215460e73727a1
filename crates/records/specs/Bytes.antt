-- The lists and the cells that a record has, and what a lent buffer has.
use Rattle.std.specs.Prelude.{Bool, ◌&&◌, ◌||◌, cond, List, ℕ, ◌*◌, ◌/◌, min, eqb, leb, ltb, length, get_or}
use Rattle.rules.specs.Tools.{all_below}
use Rattle.records.specs.Records.{byte_at, hex_of}

-- how many bytes digits spell, at most 4,096
abbrev pub bytes_in : List ℕ → ℕ
bytes_in digits = min (length digits / 2) 4096

-- the byte that the two digits of place i spell; behind them a space
unfoldable pub spelled_at : List ℕ → ℕ → ℕ
spelled_at digits i = cond (ltb i (bytes_in digits)) (hex_of digits (2 * i) 2) 32

-- the cell byte of a character: `.` empty, `o` black, `x` white, and 3 for any other
unfoldable pub cell_byte : ℕ → ℕ
cell_byte b = cond (eqb b 46) 0 (cond (eqb b 111) 1 (cond (eqb b 120) 2 3))

-- cell i of a field of 225 characters; 3, which is no cell byte, of any other field
unfoldable pub cell_in : List ℕ → ℕ → ℕ
cell_in field i = cond (eqb (length field) 225) (cell_byte (byte_at field i)) 3

-- a space where a form has one, else a hex digit
unfoldable pub form_fits : ℕ → ℕ → Bool
form_fits b wanted = cond (eqb wanted 32) (eqb b 32) ((leb 48 b && leb b 57) || (leb 97 b && leb b 102))

-- as long as the form or longer, and every byte fits
unfoldable pub has_form : List ℕ → List ℕ → Bool
has_form s form = leb (length form) (length s) && all_below (length s) (λ i. form_fits (byte_at s i) (byte_at form i))

-- the wanted bytes, and 255 behind them
unfoldable pub wanted_at : List ℕ → ℕ → ℕ
wanted_at wanted i = get_or wanted i 255

-- a page has the wanted bytes in front, and 255 behind them
unfoldable pub holds_bytes : List ℕ → List ℕ → Bool
holds_bytes page wanted = all_below (length page) (λ i. eqb (byte_at page i) (wanted_at wanted i))
