-- The eight views of what the referee answers. Of a sound board b and a view v, the board in that view is
-- the one that `Board::turned` hands back. Assumes nothing.
use mathlib.Core.Path.{◌≡◌, ap, ap₂, sym, ◌∙◌}
use mathlib.Core.List.{List}
use Prim.Native.Nat.{ℕ, ◌<◌}
use lib.ListN.{get_or}
use Rattle.rules.specs.Refusals.{first, unless}
use Rattle.rules.specs.Grid.{is_empty}
use Rattle.rules.specs.Forbidden.{strict_of, plain_of, forbidden_list}
use Rattle.rules.specs.Views.{turn, turn_cells, turn_list}
use Rattle.rules.proofs.Turns.{turn-lt}
use Rattle.rules.proofs.Views.{turned-cells, strict-view, plain-view, list-view}
use Rattle.grid.proofs.Lines.{length-cells_of, cells-cells_of}
use Rattle.board.specs.declared.board.Board.{Board}
use Rattle.board.specs.Boards.{cells, board_of, board_refusal, refusal_at}
use Rattle.board.proofs.Given.{at-point, board-sound, board-cells}
use Rattle.referee.specs.Answers.{forbidden_refusal}
use Rattle.rules.specs.Answers.{answer}
use Rattle.rules.specs.declared.Verdict.{Verdict}
use Rattle.cells.proofs.Given.{turn-ok}

module _ (v : ℕ) (b : Board) (hv : v < 8) (sound : board_refusal b ≡ 0) where
  abbrev view : Board
  view = board_of (turn_cells v (cells b))

  seen : cells view ≡ turn_cells v (cells b)
  seen = board-cells (turn_cells v (cells b)) (turn-ok v (cells b) (cells-cells_of b.lines))

  seen-sound : board_refusal view ≡ 0
  seen-sound = board-sound (turn_cells v (cells b)) (turn-ok v (cells b) (cells-cells_of b.lines))

  module _ (p : ℕ) (hp : p < 225) where
    same-refusal : refusal_at view (turn v p) ≡ refusal_at b p
    same-refusal = at-point view (turn v p) seen-sound (turn-lt v p hv hp) ∙ sym (at-point b p sound hp)

    -- what stands at the turned point
    same-cell : get_or (cells view) (turn v p) 0 ≡ get_or (cells b) p 0
    same-cell =
        ap (λ (c : List ℕ). get_or c (turn v p) 0) seen ∙ (turned-cells v (cells b) hv (length-cells_of b.lines)).same p hp

    -- the verdict in every view is the same at the turned point
    pub strict-seen : answer (refusal_at view (turn v p)) (strict_of (cells view) (turn v p))
        ≡ answer (refusal_at b p) (strict_of (cells b) p)
    strict-seen =
        ap₂ (answer {A = Verdict}) same-refusal
        (ap (λ (c : List ℕ). strict_of c (turn v p)) seen ∙ strict-view v (cells b) p hv (length-cells_of b.lines) hp)

    pub plain-seen : answer (forbidden_refusal view (turn v p)) (plain_of (cells view) (turn v p))
        ≡ answer (forbidden_refusal b p) (plain_of (cells b) p)
    unfolding forbidden_refusal
    plain-seen =
        ap₂ (answer {A = Verdict}) (ap₂ first same-refusal (ap (λ (x : ℕ). unless (is_empty x) 11) same-cell))
        (ap (λ (c : List ℕ). plain_of c (turn v p)) seen ∙ plain-view v (cells b) p hv (length-cells_of b.lines) hp)

  -- and the forbidden list is the turned list
  pub list-seen : forbidden_list (cells view) ≡ turn_list v (forbidden_list (cells b))
  list-seen = ap forbidden_list seen ∙ list-view v (cells b) hv (length-cells_of b.lines)
