-- What the code does to the cells while it reads a diagram.
use Rattle.std.specs.Prelude.{◌&&◌, cond, List, [], ◌∷◌, ℕ, ◌+◌, ◌-◌, ltb, set}
use Rattle.rules.specs.Point.{code_of}
use Rattle.text.specs.Reading.{letter_cell}

-- the cells with cell x of line k put, on row 14 - k; nothing past the fifteenth of either
unfoldable pub letter_put : ℕ → ℕ → ℕ → List ℕ → List ℕ
letter_put k x b cells = cond (ltb k 15 && ltb x 15) (set cells (code_of x (14 - k)) (letter_cell b)) cells

-- .. with the cells of line k from x on, one after the other
unfoldable pub row_put : ℕ → ℕ → List ℕ → List ℕ → List ℕ
row_put k x [] cells = cells
row_put k x (b ∷ line) cells = row_put k (x + 1) line (letter_put k x b cells)
