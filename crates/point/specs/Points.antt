-- Points and indexes as values, and the refusals about them (section 2).
use Rattle.std.specs.Prelude.{ℕ, ◌+◌, ltb, leb}
use Rattle.rules.specs.Refusals.{no_point, no_place, unless, first, line_no_refusal}
use Rattle.rules.specs.Point.{x_of, y_of, line_no, cell_no, line_size, point_at}
use Rattle.point.specs.declared.index.Point.{Point}
use Rattle.point.specs.declared.index.Index.{Index}

abbrev pub point_of : ℕ → Point
point_of p = record { x = x_of p; y = y_of p }

abbrev pub index_of : ℕ → ℕ → ℕ → Index
index_of d i j = record { d = d; i = i; j = j }

-- the line through p in direction d, and p's cell on it
abbrev pub index_at : ℕ → ℕ → Index
index_at d p = index_of d (line_no d p) (cell_no d p)

-- the point at an index
abbrev pub point_on : Index → ℕ
point_on n = point_at n.d n.i n.j

-- ---- refusals

-- "a coordinate over 14"
unfoldable pub point_refusal : Point → ℕ
point_refusal p = first (unless (leb p.x 14) no_point) (unless (leb p.y 14) no_point)

-- "10 .. a cell not on its line", after the line
unfoldable pub index_refusal : Index → ℕ
index_refusal n = first (line_no_refusal n.d n.i) (unless (ltb n.j (line_size n.d n.i)) no_place)

-- .. that many steps on
unfoldable pub offset_refusal : Index → ℕ → ℕ
offset_refusal n step = first (index_refusal n) (unless (ltb (n.j + step) (line_size n.d n.i)) no_place)
