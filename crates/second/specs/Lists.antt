-- What is asked of the second referee: which rows of a line; and what it refuses, in section 2's order. Its board comes as cell bytes, so
-- 9 is its only board refusal.
use Rattle.std.specs.Prelude.{Bool, cond, List, ℕ, get_or}
use Rattle.rules.specs.Refusals.{occupied, unless, first, kind_refusal}
use Rattle.rules.specs.Point.{line_no}
use Rattle.rules.specs.Grid.{is_empty, row_on, rows_through}
use Rattle.rules.specs.declared.Player.{Player}
use Rattle.rules.specs.declared.RowKind.{RowKind}
use Rattle.cells.specs.Cells.{cells_refusal_at, cells_refusal_for, cells_stones_refusal}

-- the rows of the line through p: only those through it, or all
abbrev pub rows_asked : Player → RowKind → List ℕ → ℕ → ℕ → Bool → ℕ → Bool
rows_asked r k cells p d only_through j = cond only_through (rows_through r k cells p d j) (row_on r k cells d (line_no d p) j)

-- 9, then 12 for the colour and for the kind
unfoldable pub cells_rows_refusal : List ℕ → ℕ → ℕ → ℕ
cells_rows_refusal cells colour kind = first (cells_stones_refusal cells colour) (kind_refusal kind)

-- .. of the rows through p: 8 after 9
unfoldable pub cells_rows_on_refusal : List ℕ → ℕ → ℕ → ℕ → ℕ
cells_rows_on_refusal cells p colour kind = first (cells_refusal_for cells p colour) (kind_refusal kind)

-- "11 the plain verdict (`forbidden`) at an occupied point", after 9 and 8
unfoldable pub cells_forbidden_refusal : List ℕ → ℕ → ℕ
cells_forbidden_refusal cells p = first (cells_refusal_at cells p) (unless (is_empty (get_or cells p 0)) occupied)
