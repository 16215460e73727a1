-- The fields of a record: bytes, numbers in hex, lines.
use Rattle.std.specs.Prelude.{◌&&◌, cond, List, [], ◌∷◌, ℕ, zero, suc, ◌+◌, ◌-◌, ◌*◌, min, leb, eqb, length, get_or, take, drop}

-- the byte at place i, 0 past the end
abbrev pub byte_at : List ℕ → ℕ → ℕ
byte_at s i = get_or s i 0

-- what a lower-case hex digit stands for; 0 for any other byte
unfoldable pub digit_of : ℕ → ℕ
digit_of b = cond (leb 48 b && leb b 57) (b - 48) (cond (leb 97 b && leb b 102) (b - 87) 0)

-- the number that n digits spell from place `at` on
unfoldable pub hex_spelled : List ℕ → ℕ → ℕ → ℕ
hex_spelled s at zero = 0
hex_spelled s at (suc n) = hex_spelled s at n * 16 + digit_of (byte_at s (at + n))

-- of so many digits at most four are read
unfoldable pub hex_of : List ℕ → ℕ → ℕ → ℕ
hex_of s at digits = hex_spelled s at (min digits 4)

-- how many bytes stand before the first byte d
unfoldable pub length_to : ℕ → List ℕ → ℕ
length_to d [] = 0
length_to d (b ∷ s) = cond (eqb b d) 0 (suc (length_to d s))

-- the place of the first byte d at or after `from`, or the length
unfoldable pub place_from : List ℕ → ℕ → ℕ → ℕ
place_from s from d = min from (length s) + length_to d (drop from s)

-- .. of the end of the line, byte 10
abbrev pub line_end : List ℕ → ℕ → ℕ
line_end s from = place_from s from 10

-- the bytes from a place to the end of its line
unfoldable pub line_at : List ℕ → ℕ → List ℕ
line_at s at = take (length_to 10 (drop at s)) (drop at s)
