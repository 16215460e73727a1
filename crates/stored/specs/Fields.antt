-- Fields of a stored game: "fields of a one-byte tag and a two-byte length, high byte first" (document 02, No. 4). Written, and read off
-- the front of any bytes.
use Rattle.std.specs.Prelude.{Bool, ◌&&◌, List, ◌∷◌, ℕ, ◌+◌, ◌*◌, ◌/◌, ◌%◌, eqb, leb, length, get_or, take, drop}

-- ---- written

-- the tag, the length of the value in two bytes, the value
unfoldable pub field : ℕ → List ℕ → List ℕ
field tag value = tag ∷ (length value / 256) ∷ (length value % 256) ∷ value

-- ---- read: past the end every byte counts as 0

-- the length that the field in front has
unfoldable pub field_length : List ℕ → ℕ
field_length s = 256 * get_or s 1 0 + get_or s 2 0

-- its value, and what is behind it
unfoldable pub field_value : List ℕ → List ℕ
field_value s = take (field_length s) (drop 3 s)

unfoldable pub behind_field : List ℕ → List ℕ
behind_field s = drop (field_length s) (drop 3 s)

-- whether a field of the tag stands in front, with as many bytes as its length says
unfoldable pub has_field : ℕ → List ℕ → Bool
has_field tag s = eqb (get_or s 0 0) tag && leb (3 + field_length s) (length s)
