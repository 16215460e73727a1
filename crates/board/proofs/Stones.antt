-- The counts of a board that is not refused: with its empty points they are 225, and a view keeps both; and every board that is handed
-- back is such a board. Assumes nothing.
use mathlib.Core.Path.{◌≡◌, refl, sym, ap₂, ◌∙◌}
use mathlib.Core.List.{List}
use Prim.Native.Nat.{ℕ, ◌+◌, ◌<◌}
use Rattle.std.specs.Prelude.{Ok}
use Rattle.rules.specs.Grid.{empties}
use Rattle.rules.specs.Views.{turn_cells}
use Rattle.rules.specs.declared.Player.TheVariants.{Black, White}
use Rattle.cells.specs.Cells.{Cells}
use Rattle.cells.proofs.Counts.{stones-turned, counts_all}
use Rattle.grid.proofs.Lines.{length-cells_of}
use Rattle.board.specs.Boards.{cells, board_of, board_refusal}
use Rattle.board.specs.Answers.{board_answer}
use Rattle.board.specs.declared.board.Board.{Board}
use Rattle.board.proofs.Given.{counts-in, made-sound}

module _ (b : Board) (sound : board_refusal b ≡ 0) where
  -- "Black, white and empty points together make 225."
  pub all-points : b.blacks + b.whites + empties (cells b) ≡ 225
  all-points =
      ap₂ (λ (n m : ℕ). n + m + empties (cells b)) (counts-in b sound).0 (counts-in b sound).1
      ∙ counts_all (cells b) (length-cells_of b.lines)

  -- "Views keep both counts.": those of the board that `Board::turned` hands back
  pub views-keep : (v : ℕ) → v < 8
      → ((board_of (turn_cells v (cells b))).blacks ≡ b.blacks) × ((board_of (turn_cells v (cells b))).whites ≡ b.whites)
  unfolding board_of
  views-keep v hv = (
    stones-turned Black v (cells b) hv (length-cells_of b.lines) ∙ sym (counts-in b sound).0,
    stones-turned White v (cells b) hv (length-cells_of b.lines) ∙ sym (counts-in b sound).1,
  )

-- every board that an answer has is sound, so its counts are those of its cells
pub answer-sound : (refused : ℕ) (c : List ℕ) {b : Board} → (refused ≡ 0 → Cells c) → board_answer refused c ≡ Ok b → board_refusal b ≡ 0
answer-sound refused c ok e = made-sound refused c refl e ok
