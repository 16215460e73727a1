-- "More than one", counted: how many rows some starts are, on one line and on the four lines through a point.
use Rattle.std.specs.Prelude.{Bool, cond, ℕ, ◌+◌}
use Rattle.rules.specs.Grid.{Starts}
use Rattle.rules.specs.Forbidden.{some_start, apart}

-- on one line: starts within {j, j+1} are one row, and "a set not contained in {j, j+1}" is more than one
unfoldable pub rows_along : (ℕ → Bool) → ℕ
rows_along s = cond (apart 16 s) 2 (cond (some_start s) 1 0)

-- on all four: one or more where there is some row, two or more where there is "more than one" (proofs/Tallied.antt, count-some and
-- count-more)
unfoldable pub row_count : Starts → ℕ
row_count s = rows_along (s 0) + rows_along (s 1) + rows_along (s 2) + rows_along (s 3)
