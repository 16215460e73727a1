-- Stored games (document 02, No. 4). The old form is "one code byte a move". The new form is a record of two fields. The quoted sentences are
-- document 02's.
use Rattle.std.specs.Prelude.{Bool, ◌&&◌, List, [], ◌∷◌, ◌++◌, ℕ, eqb, leb, length, get_or}
use Rattle.rules.specs.Refusals.{malformed, turned_view, unless, first, view_refusal}
use Rattle.cells.specs.Cells.{moves_refusal}
use Rattle.stored.specs.Fields.{field, field_length, field_value, behind_field, has_field}

-- "tag 1 the view", "tag 2 the moves"
abbrev pub view_tag : ℕ
view_tag = 1

abbrev pub moves_tag : ℕ
moves_tag = 2

-- ---- written

-- "tag 1 the view (length 1, value 0 to 7), then tag 2 the moves (0 to 225 codes), each once, in that order, nothing after"
unfoldable pub record_of : ℕ → List ℕ → List ℕ
record_of view moves = field view_tag (view ∷ []) ++ field moves_tag moves

-- ---- read, from any bytes

-- the view and the moves: the values of the first field and of the one behind it
unfoldable pub stored_view : List ℕ → ℕ
stored_view s = get_or (field_value s) 0 0

unfoldable pub stored_moves : List ℕ → List ℕ
stored_moves s = field_value (behind_field s)

-- "tag 1 the view (length 1, value 0 to 7)"
unfoldable pub begins_with_view : List ℕ → Bool
begins_with_view s = has_field view_tag s && (eqb (field_length s) 1 && leb (stored_view s) 7)

-- "then tag 2 the moves .. nothing after"
unfoldable pub is_moves_alone : List ℕ → Bool
is_moves_alone s = has_field moves_tag s && eqb (length (behind_field s)) 0

unfoldable pub is_record : List ℕ → Bool
is_record s = begins_with_view s && is_moves_alone (behind_field s)

-- ---- refused

-- of a record that is read: "15 for a malformed record, a view over 7 or a length that disagrees with the bytes included; then 14 for an
-- agreeing moves length over 225, 8"
unfoldable pub record_refusal : List ℕ → ℕ
record_refusal s = first (unless (is_record s) malformed) (moves_refusal (stored_moves s))

-- .. and taken back to the old form: "16 for a view other than 0 on the way back"
unfoldable pub back_refusal : List ℕ → ℕ
back_refusal s = first (record_refusal s) (unless (eqb (stored_view s) 0) turned_view)

-- of a view and moves that are written: 14, 8, then document 01's 12 for a view over 7
unfoldable pub tagged_refusal : ℕ → List ℕ → ℕ
tagged_refusal view moves = first (moves_refusal moves) (view_refusal view)
