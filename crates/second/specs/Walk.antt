-- The line through a point p: its cells, and walks along it by coordinates.
use Rattle.std.specs.Prelude.{List, ℕ, ◌+◌, ◌-◌, min}
use Rattle.rules.specs.Numbers.{opponent_of}
use Rattle.rules.specs.Line.{Stones}
use Rattle.rules.specs.Point.{x_of, y_of, by_direction, line_no, cell_no, line_size}
use Rattle.rules.specs.Grid.{stone_at}
use Rattle.rules.specs.declared.Player.{Player}

-- how many cells the line has; which of them hold a stone of the player's, and which one of the opponent's
abbrev pub size_along : ℕ → ℕ → ℕ
size_along d p = line_size d (line_no d p)

abbrev pub own_along : Player → List ℕ → ℕ → ℕ → Stones
own_along r cells d p = stone_at r cells d (line_no d p)

abbrev pub other_along : Player → List ℕ → ℕ → ℕ → Stones
other_along r cells d p = stone_at (opponent_of r) cells d (line_no d p)

-- the steps on from p that stay on the board
unfoldable pub steps_on : ℕ → ℕ → ℕ
steps_on d p = by_direction d (14 - y_of p) (14 - x_of p) (min (14 - x_of p) (14 - y_of p)) (min (14 - x_of p) (y_of p))

-- x and y of cell i: as many steps back from p as there are cells before it, then i steps on
unfoldable pub x_at : ℕ → ℕ → ℕ → ℕ
x_at d p i = by_direction d (x_of p) (x_of p - cell_no d p + i) (x_of p - cell_no d p + i) (x_of p - cell_no d p + i)

unfoldable pub y_at : ℕ → ℕ → ℕ → ℕ
y_at d p i = by_direction d (y_of p - cell_no d p + i) (y_of p) (y_of p - cell_no d p + i) (y_of p + cell_no d p - i)
