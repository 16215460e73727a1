-- How long the parts of lists can be: the rows of a line, the eyes on a line. Assumes nothing.
use mathlib.Core.Bool.{Bool}
use mathlib.Core.List.{List, [], ◌∷◌}
use Prim.Native.Nat.{ℕ, ◌≤◌}
use native.Mathlib.Omega.{arith}
use lib.ListN.{length}
use Rattle.rules.specs.Point.{line_no, line_size, point_at}
use Rattle.rules.specs.Grid.{row_bytes, line_rows, four_eye, eyes_in}
use Rattle.rules.specs.declared.Player.{Player}
use Rattle.rules.specs.declared.RowKind.{RowKind}
use Rattle.rules.proofs.Address.{size-le}
use Rattle.lent.proofs.Laws.{short}

-- how long a part is: a line has at most 15 cells
pub rows_short : (r : Player) (k : RowKind) (cells : List ℕ) (d i : ℕ) (row : ℕ → Bool) → length (line_rows r k cells d i row) ≤ 60
unfolding line_rows row_bytes
rows_short r k cells d i row =
    let a = short 4 row (row_bytes r k cells d i) (λ j. omega arith) (line_size d i) in
    let b = size-le d i in
    omega arith

pub eyes-short : (r : Player) (cells : List ℕ) (p d : ℕ) → length (eyes_in r cells p d) ≤ 15
eyes-short r cells p d =
    let a = short 1 (four_eye r cells p d) (λ e. point_at d (line_no d p) e ∷ []) (λ e. omega arith) (line_size d (line_no d p)) in
    let b = size-le d (line_no d p) in
    omega arith
