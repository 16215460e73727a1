-- What no refusal says of those who ask for a list, and that the cells of a board are asked as it is. Assumes nothing.
use mathlib.Core.Path.{◌≡◌, refl, ap, ap₂, sym, ◌∙◌}
use mathlib.Core.Bool.{Bool, true, false, cond}
use mathlib.Core.List.{List}
use Prim.Native.Nat.{ℕ}
use lib.Dec.{eqb}
use Rattle.std.specs.Prelude.{Result, Ok, Err}
use Rattle.rules.specs.Refusals.{first, code_refusal, colour_refusal, kind_refusal, distance_refusal}
use Rattle.rules.specs.Answers.{answer, checked}
use Rattle.rules.specs.declared.refusal.Refusal.{Refusal}
use Rattle.rules.proofs.Refusals.{first-none}
use Rattle.lent.specs.Lists.{list_out, counted}
use Rattle.cells.specs.Cells.{cells_refusal, cells_refusal_at, cells_stones_refusal, cells_neighbours_refusal}
use Rattle.cells.proofs.Given.{cells-pass}
use Rattle.grid.specs.Lines.{Sound}
use Rattle.grid.proofs.Lines.{cells-cells_of}
use Rattle.board.specs.declared.board.Board.{Board}
use Rattle.board.specs.Boards.{cells, board_refusal, refusal_at}
use Rattle.board.proofs.Given.{sound-in}
use Rattle.lists.specs.Lists.{stones_refusal, neighbours_refusal, rows_refusal}

-- the first of two refusals stands before the second
first-refused : (n m : ℕ) {x : Refusal} → checked n ≡ Err x → checked (first n m) ≡ Err x
unfolding answer first
first-refused n m {x} e = go (eqb n 0) refl
  where
    go : (t : Bool) → eqb n 0 ≡ t → checked (cond (eqb n 0) m n) ≡ Err x
    go true q = let z : Ok tt ≡ Err x = rw q at e in cc
    go false q = rw (q, q) (rw q at e)

module _ (b : Board) where
  pub rows-open : (colour kind : ℕ) → rows_refusal b colour kind ≡ 0 → Sound b.lines
  unfolding rows_refusal stones_refusal
  rows-open colour kind e =
      sound-in b (first-none (board_refusal b) (colour_refusal colour) (first-none (stones_refusal b colour) (kind_refusal kind) e).0).0

  -- ---- a question that is handed on to the cells of a board

  -- the board is refused first, whatever else is asked
  module _ {x : Refusal} (e : checked (board_refusal b) ≡ Err x) where
    pub stones-turned : (colour : ℕ) → checked (stones_refusal b colour) ≡ Err x
    unfolding stones_refusal
    stones-turned colour = first-refused (board_refusal b) (colour_refusal colour) e

    pub near-turned : (p d : ℕ) → checked (neighbours_refusal b p d) ≡ Err x
    unfolding neighbours_refusal refusal_at
    near-turned p d = first-refused (refusal_at b p) (distance_refusal d) (first-refused (board_refusal b) (code_refusal p) e)

  -- else its cells are refused as it is
  module _ (e : board_refusal b ≡ 0) where
    pub cells-asked : cells_refusal (cells b) ≡ board_refusal b
    cells-asked = cells-pass (cells b) (cells-cells_of b.lines) ∙ sym e

    pub stones-asked : (colour : ℕ) → cells_stones_refusal (cells b) colour ≡ stones_refusal b colour
    unfolding cells_stones_refusal stones_refusal
    stones-asked colour = ap (λ (n : ℕ). first n (colour_refusal colour)) cells-asked

    pub near-asked : (p d : ℕ) → cells_neighbours_refusal (cells b) p d ≡ neighbours_refusal b p d
    unfolding cells_neighbours_refusal cells_refusal_at neighbours_refusal refusal_at
    near-asked p d = ap (λ (n : ℕ). first (first n (code_refusal p)) (distance_refusal d)) cells-asked

-- a list that was asked for, by what the refusal and the list mean
pub asked-list : (out : List ℕ) {asked told : ℕ} {a list : List ℕ} → asked ≡ told → a ≡ list → {r : Result ℕ Refusal} {out' : List ℕ}
    → (r ≡ counted 1 asked out a) × (out' ≡ list_out asked out a) → (r ≡ counted 1 told out list) × (out' ≡ list_out told out list)
asked-list out e l k = (
  k.0 ∙ ap₂ (λ (n : ℕ) (x : List ℕ). counted 1 n out x) e l,
  k.1 ∙ ap₂ (λ (n : ℕ) (x : List ℕ). list_out n out x) e l,
)
