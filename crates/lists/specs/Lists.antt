-- The parts of the lists of section 4, line by line, and the refusals of those who ask for them.
use Rattle.std.specs.Prelude.{Bool, not, ◌||◌, List, [], ◌∷◌, ℕ, ◌+◌, ltb}
use Rattle.rules.specs.Refusals.{no_place, unless, first, colour_refusal, kind_refusal, distance_refusal, key_refusal}
use Rattle.rules.specs.Tools.{all_below, gather, only}
use Rattle.rules.specs.Bit.{bit}
use Rattle.rules.specs.Line.{Stones, stones_mask, eyes_mask}
use Rattle.rules.specs.Point.{line_size, point_at, key_size, key_point}
use Rattle.rules.specs.declared.RowKind.{RowKind}
use Rattle.board.specs.declared.board.Board.{Board}
use Rattle.board.specs.Boards.{board_refusal, refusal_at}

-- ---- the parts of the lists

-- the codes of the cells of line i that pass a test
abbrev pub cell_item : ℕ → ℕ → (ℕ → Bool) → ℕ → List ℕ
cell_item d i on j = only (on j) (point_at d i j ∷ [])

unfoldable pub cell_list : ℕ → ℕ → (ℕ → Bool) → List ℕ
cell_list d i on = gather (line_size d i) (cell_item d i on)

-- the rows of the line of a key that start where a test says, by its own stones and the other's
abbrev pub row_item : ℕ → Stones → Stones → RowKind → (ℕ → Bool) → ℕ → List ℕ
row_item key own other k starts j = only (starts j) (key ∷ j ∷ stones_mask own j ∷ eyes_mask (key_size key) own other k j ∷ [])

unfoldable pub row_list : ℕ → Stones → Stones → RowKind → (ℕ → Bool) → List ℕ
row_list key own other k starts = gather (key_size key) (row_item key own other k starts)

-- the points of some cells of the line of a key, told by a mask as a row's stones and eyes are: "bit k for cell j + k"
abbrev pub mask_item : ℕ → ℕ → ℕ → ℕ → List ℕ
mask_item key j mask k = only (bit mask k) (key_point key (j + k) ∷ [])

unfoldable pub mask_points : ℕ → ℕ → ℕ → List ℕ
mask_points key j mask = gather 8 (mask_item key j mask)

-- ---- refusals, in section 2's order: 9, 8, 12, 10

unfoldable pub stones_refusal : Board → ℕ → ℕ
stones_refusal b colour = first (board_refusal b) (colour_refusal colour)

-- "12 .. neighbour distance over 14"
unfoldable pub neighbours_refusal : Board → ℕ → ℕ → ℕ
neighbours_refusal b p n = first (refusal_at b p) (distance_refusal n)

unfoldable pub rows_refusal : Board → ℕ → ℕ → ℕ
rows_refusal b colour kind = first (stones_refusal b colour) (kind_refusal kind)

-- "10 .. a cell not on its line; .. a line number or key that does not exist"
abbrev pub mask_cell : ℕ → ℕ → ℕ → ℕ → Bool
mask_cell size j mask k = not (bit mask k) || ltb (j + k) size

unfoldable pub mask_refusal : ℕ → ℕ → ℕ → ℕ
mask_refusal key j mask = first (key_refusal key) (unless (all_below 8 (mask_cell (key_size key) j mask)) no_place)
