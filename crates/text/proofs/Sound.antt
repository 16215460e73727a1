-- What a text says are cells of 0, 1 and 2, so that the board given back is sound and has these cells. Assumes nothing.
use mathlib.Core.Path.{◌≡◌}
use mathlib.Core.Bool.{Bool, true, false, cond}
use mathlib.Core.List.{List, []}
use Prim.Native.Nat.{ℕ, ◌-◌, ◌≤◌}
use native.Mathlib.Omega.{arith}
use lib.Dec.{eqb}
use lib.ListN.{get_or}
use Rattle.rules.specs.Point.{x_of, y_of}
use Rattle.rules.proofs.Lists.{length-tab, get_d-tab}
use Rattle.cells.specs.Cells.{Cells}
use Rattle.cells.proofs.Given.{moves-ok, stones-ok}
use Rattle.board.specs.Boards.{board_of, board_refusal, cells}
use Rattle.board.proofs.Given.{board-sound, board-cells}
use Rattle.text.specs.Bytes.{newline, slash, small_o, small_x, trim, has, parts, dense}
use Rattle.text.specs.Points.{points_in}
use Rattle.text.specs.Reading.{black_list, white_list, stones_in, moves_in, letter_cell, diagram_cells, diagram_text_cells, read_cells}

cell-small : (b : ℕ) → letter_cell b ≤ 2
unfolding letter_cell
cell-small b = go (eqb b small_o) (eqb b small_x)
  where
    go : (o x : Bool) → cond o 1 (cond x 2 0) ≤ 2
    go true x = omega arith
    go false true = omega arith
    go false false = omega arith

diagram-ok : (lines : List (List ℕ)) → Cells (diagram_cells lines)
unfolding diagram_cells
diagram-ok lines =
    let f : ℕ → ℕ = λ p. letter_cell (get_or (dense (get_or lines (14 - y_of p) [])) (x_of p) 0) in
    record {
      long = length-tab 225 f;
      small = λ p h. rw (get_d-tab 225 f p h) (cell-small (get_or (dense (get_or lines (14 - y_of p) [])) (x_of p) 0));
    }

pub diagram-text-ok : (s : List ℕ) → Cells (diagram_text_cells s)
unfolding diagram_text_cells
diagram-text-ok s = diagram-ok (parts newline (trim s))

pub read_ok : (s : List ℕ) → Cells (read_cells s)
unfolding read_cells stones_in moves_in
read_ok s = go (has slash s)
  where
    go : (a : Bool) → Cells (cond a (stones_in (trim s)) (moves_in (trim s)))
    go true = stones-ok (points_in (black_list (trim s))) (points_in (white_list (trim s)))
    go false = moves-ok (points_in (trim s))

-- the board that a text says is sound, and has the cells that it says
pub read-sound : (s : List ℕ) → board_refusal (board_of (read_cells s)) ≡ 0
read-sound s = board-sound (read_cells s) (read_ok s)

pub read-cells : (s : List ℕ) → cells (board_of (read_cells s)) ≡ read_cells s
read-cells s = board-cells (read_cells s) (read_ok s)
