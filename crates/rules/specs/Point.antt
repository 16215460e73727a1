-- Section 3: points and lines. A direction is a number: 0 vertical, 1 horizontal, 2 ascending, 3 descending. The quoted sentences are
-- document 01's.
use Rattle.std.specs.Prelude.{Bool, true, ◌&&◌, cond, ℕ, zero, suc, ◌+◌, ◌-◌, ◌*◌, ◌/◌, ◌%◌, ltb, leb}

-- "x and y run 0 to 14; code = 15x + y. A1 is 0, H8 is 112, O15 is 224." (proofs/Address.antt, named)
abbrev pub x_of : ℕ → ℕ
x_of p = p / 15

abbrev pub y_of : ℕ → ℕ
y_of p = p % 15

abbrev pub code_of : ℕ → ℕ → ℕ
code_of x y = 15 * x + y

-- one of four, by the direction
abbrev pub by_direction : ℕ → ℕ → ℕ → ℕ → ℕ → ℕ
by_direction zero v h a d = v
by_direction (suc zero) v h a d = h
by_direction (suc (suc zero)) v h a d = a
by_direction (suc (suc (suc k))) v h a d = d

-- The number of the line through p. "Vertical line x holds cells y; horizontal line y holds cells x. Ascending number is x + 14 − y ..
-- Descending number is x + y"
unfoldable pub line_no : ℕ → ℕ → ℕ
line_no d p = by_direction d (x_of p) (y_of p) (x_of p + 14 - y_of p) (x_of p + y_of p)

-- p's cell on that line: y; x; "cell x if that number is below 14, else y"; "cell x if below 14, else 14 − y"
unfoldable pub cell_no : ℕ → ℕ → ℕ
cell_no d p =
    by_direction d (y_of p) (x_of p)
    (cond (ltb (x_of p + 14 - y_of p) 14) (x_of p) (y_of p))
    (cond (ltb (x_of p + y_of p) 14) (x_of p) (14 - y_of p))

-- how many lines a direction has: "Diagonals are numbered 0 to 28"
unfoldable pub line_count : ℕ → ℕ
line_count d = by_direction d 15 15 29 29

-- how many cells line i has: "15; for diagonal number i, i + 1 up to 14, then 29 − i"
unfoldable pub line_size : ℕ → ℕ → ℕ
line_size d i = by_direction d 15 15 (cond (ltb i 14) (i + 1) (29 - i)) (cond (ltb i 14) (i + 1) (29 - i))

-- the point at cell j of line i
unfoldable pub point_at : ℕ → ℕ → ℕ → ℕ
point_at d i j =
    by_direction d (code_of i j) (code_of j i)
    (cond (ltb i 14) (code_of j (14 - i + j)) (code_of (i + j - 14) j))
    (cond (ltb i 14) (code_of j (i - j)) (code_of (i + j - 14) (14 - j)))

-- from one cell of a line to the next the code grows by this (proofs/Address.antt, step-at)
abbrev pub step_of : ℕ → ℕ
step_of d = by_direction d 1 15 16 14

-- ---- stored lines and their keys

-- "only 4 to 24 are stored, 21 each way"
unfoldable pub stored : ℕ → ℕ → Bool
stored d i = cond (ltb d 2) true (leb 4 i && leb i 24)

-- "Keys: vertical 0 to 14, horizontal 15 to 29, ascending 30 to 50, descending 51 to 71." Diagonal 4 is the first of its 21.
unfoldable pub key_of : ℕ → ℕ → ℕ
key_of d i = by_direction d i (15 + i) (26 + i) (47 + i)

-- the line through p in direction d: whether it is stored, and its key
unfoldable pub stored_at : ℕ → ℕ → Bool
stored_at d p = stored d (line_no d p)

unfoldable pub key_at : ℕ → ℕ → ℕ
key_at d p = key_of d (line_no d p)

-- back from a key: the direction and the number of its line
unfoldable pub key_dir : ℕ → ℕ
key_dir k = cond (ltb k 15) 0 (cond (ltb k 30) 1 (cond (ltb k 51) 2 3))

unfoldable pub key_no : ℕ → ℕ
key_no k = cond (ltb k 15) k (cond (ltb k 30) (k - 15) (cond (ltb k 51) (k - 26) (k - 47)))

-- its size, and the point at its cell j
unfoldable pub key_size : ℕ → ℕ
key_size k = line_size (key_dir k) (key_no k)

unfoldable pub key_point : ℕ → ℕ → ℕ
key_point k j = point_at (key_dir k) (key_no k) j
