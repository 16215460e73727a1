-- Answers about points that may be none, beside the value and the refusal.
use Rattle.std.specs.Prelude.{cond, ℕ, ltb, ℤ, pos, negsuc, Option, Some, None}
use Rattle.rules.specs.Point.{key_of, line_size, stored}
use Rattle.point.specs.declared.index.Index.{Index}

-- "An existing diagonal that is not stored answers "none", and is no refusal."
unfoldable pub stored_key : ℕ → ℕ → Option ℕ
stored_key d i = cond (stored d i) (Some (key_of d i)) None

-- the index on the same line, at a cell that may be past either end
unfoldable pub cell_on : Index → ℤ → Option Index
cell_on i (pos j) = cond (ltb j (line_size i.d i.i)) (Some (record { d = i.d; i = i.i; j = j })) None
cell_on i (negsuc n) = None
