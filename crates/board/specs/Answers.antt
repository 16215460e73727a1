-- Answers about boards: the value where no refusal is given (0), else the refusal alone.
use Rattle.std.specs.Prelude.{List, ℕ, Result, Ok, Err}
use Rattle.rules.specs.Numbers.{player_of}
use Rattle.rules.specs.Grid.{put, remove}
use Rattle.rules.specs.Answers.{answer}
use Rattle.rules.specs.declared.refusal.Refusal.{Refusal}
use Rattle.cells.specs.Cells.{cells_refusal}
use Rattle.board.specs.Boards.{cells, board_of, refusal_at, refusal_for}
use Rattle.board.specs.declared.board.Board.{Board}

abbrev pub answer_with : ℕ → Board → Result Board Refusal
answer_with refused b = answer refused b

-- the board of some cells
unfoldable pub board_answer : ℕ → List ℕ → Result Board Refusal
board_answer refused cells = answer_with refused (board_of cells)

-- the board of cells that were read, or the refusal of the reading
unfoldable pub read_answer : Result (List ℕ) Refusal → Result Board Refusal
read_answer (Ok cells) = board_answer (cells_refusal cells) cells
read_answer (Err refusal) = Err refusal

-- the board after a stone of the colour is put at a point, and after a point is made empty
abbrev pub put_answer : Board → ℕ → ℕ → Result Board Refusal
put_answer b p colour = board_answer (refusal_for b p colour) (put (player_of colour) (cells b) p)

abbrev pub remove_answer : Board → ℕ → Result Board Refusal
remove_answer b p = board_answer (refusal_at b p) (remove (cells b) p)
