-- The rows and eyes of a board: where they can be. Assumes nothing.
use mathlib.Core.Path.{◌≡◌, ap, ◌∙◌}
use mathlib.Core.Bool.{false, ◌&&◌}
use mathlib.Core.List.{List}
use Prim.Native.Nat.{ℕ, ◌+◌, ◌≤◌, ◌<◌}
use native.Mathlib.Omega.{arith}
use lib.Dec.{T, ltb, eqb, ltb→lt}
use lib.ListN.{get_or}
use borrow.Author.Tests.{lt-ltb, le-ltb}
use Rattle.rules.specs.Numbers.{colour_no, is_black, opponent_of}
use Rattle.rules.specs.Line.{no_stone, through, among, empty_at, is_eye, eye_span}
use Rattle.rules.specs.Point.{line_no, cell_no, line_size, point_at}
use Rattle.rules.specs.Grid.{stone_at, row_on, eye_on, rows_through}
use Rattle.rules.specs.declared.Player.{Player}
use Rattle.rules.specs.declared.RowKind.{RowKind}
use Rattle.rules.proofs.Logic.{and_left, and_right}
use Rattle.rules.proofs.Address.{point-here, cell-here, size-le}
use Rattle.rules.proofs.Windows.{row_inside}

-- a line inside and outside
pub stone-in : (r : Player) (cells : List ℕ) (d i j : ℕ) → j < line_size d i
    → stone_at r cells d i j ≡ eqb (get_or cells (point_at d i j) 0) (colour_no r)
unfolding stone_at
stone-in r cells d i j h = rw (lt-ltb j (line_size d i) h)

pub stone-out : (r : Player) (cells : List ℕ) (d i j : ℕ) → line_size d i ≤ j → stone_at r cells d i j ≡ false
unfolding stone_at
stone-out r cells d i j h = rw (le-ltb j (line_size d i) h)

-- a stone stands at a point, on the line in any direction, where the cell has its colour's number
pub stone-here : (r : Player) (cells : List ℕ) (d p : ℕ) → d < 4 → p < 225
    → stone_at r cells d (line_no d p) (cell_no d p) ≡ eqb (get_or cells p 0) (colour_no r)
stone-here r cells d p hd hp =
    stone-in r cells d (line_no d p) (cell_no d p) (cell-here d p hd hp)
    ∙ ap (λ (x : ℕ). eqb (get_or cells x 0) (colour_no r)) (point-here d p hd hp)

-- a row lies on its line
pub row_on-inside : (r : Player) (k : RowKind) (cells : List ℕ) (d i j : ℕ) → T (row_on r k cells d i j) → j + 5 ≤ line_size d i
unfolding row_on
row_on-inside r k cells d i j t = row_inside (is_black r) (line_size d i) (stone_at r cells d i) (stone_at (opponent_of r) cells d i) k j t

-- a row through a point is a row
pub through-row : (r : Player) (k : RowKind) (cells : List ℕ) (p d j : ℕ) → T (rows_through r k cells p d j)
    → T (row_on r k cells d (line_no d p) j)
unfolding rows_through
through-row r k cells p d j t = and_right (through k (cell_no d p) j) (row_on r k cells d (line_no d p) j) t

pub through-inside : (r : Player) (k : RowKind) (cells : List ℕ) (p d j : ℕ) → T (rows_through r k cells p d j)
    → j + 5 ≤ line_size d (line_no d p)
through-inside r k cells p d j t = row_on-inside r k cells d (line_no d p) j (through-row r k cells p d j t)

pub start-lt : (r : Player) (k : RowKind) (cells : List ℕ) (p d j : ℕ) → T (rows_through r k cells p d j) → j < 16
start-lt r k cells p d j t =
    let a = through-inside r k cells p d j t in
    let b = size-le d (line_no d p) in
    omega arith

-- an eye lies on its line
pub eye-inside : (r : Player) (k : RowKind) (cells : List ℕ) (d i j e : ℕ) → T (eye_on r k cells d i j e) → e < line_size d i
unfolding eye_on is_eye empty_at
eye-inside r k cells d i j e t =
    let o = stone_at r cells d i in
    let w = stone_at (opponent_of r) cells d i in
    ltb→lt e (line_size d i)
    (and_left (ltb e (line_size d i)) (no_stone o w e) (and_right (among (eye_span k) j e) (ltb e (line_size d i) && no_stone o w e) t))
