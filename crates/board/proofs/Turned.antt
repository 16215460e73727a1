-- A board turned by one view and then by another, and turned back (document 02, No. 9): of the board that `Board::turned` hands back, all that
-- a board holds. Assumes nothing.
use mathlib.Core.Path.{◌≡◌, refl, ap, sym, ◌∙◌}
use Rattle.std.specs.Prelude.{Result, Ok}
use Prim.Native.Nat.{ℕ, ◌<◌}
use contract.Lifetimes.{Lfts}
use Rattle.rules.specs.Refusals.{first, view_refusal}
use Rattle.rules.specs.Views.{turn_cells, then_view}
use Rattle.rules.specs.Answers.{answer}
use Rattle.rules.specs.declared.refusal.Refusal.{Refusal}
use Rattle.rules.proofs.Refusals.{first-none, none_first}
use Rattle.rules.proofs.Composed.{Viewable, then-lt, returned, cells-turn}
use Rattle.point.proofs.Refused.{view_in}
use Rattle.point.proofs.Followed.{Gave, then-given, back-given, view-pass}
use Rattle.point.proofs.view_then.Reads as view_then
use Rattle.point.proofs.view_back.Reads as view-back
use Rattle.cells.specs.Cells.{Cells}
use Rattle.cells.proofs.Given.{turn-ok}
use Rattle.grid.proofs.Lines.{length-cells_of, cells-cells_of}
use Rattle.board.specs.Boards.{cells, board_of, board_refusal}
use Rattle.board.specs.Answers.{board_answer}
use Rattle.board.specs.declared.board.Board.{Board}
use Rattle.board.proofs.Given.{whole-board, board-sound, board-cells, made-refusal, made-board}
use Rattle.board.proofs.board.Board.turned.Reads as turned

-- what `turned` answers, and the board in it
abbrev pub turned_answer : ℕ → Board → Result Board Refusal
turned_answer v b = board_answer (first (board_refusal b) (view_refusal v)) (turn_cells v (cells b))

abbrev pub turned_board : ℕ → Board → Board
turned_board v b = board_of (turn_cells v (cells b))

module _ (v : ℕ) (b : Board) (hv : v < 8) (e : board_refusal b ≡ 0) where
  pub turned_given : turned_answer v b ≡ Ok (turned_board v b)
  unfolding board_answer answer
  turned_given = rw (none_first (board_refusal b) (view_refusal v) e (view-pass v hv))

  ok : Cells (turn_cells v (cells b))
  ok = turn-ok v (cells b) (cells-cells_of b.lines)

  turned-sound : board_refusal (turned_board v b) ≡ 0
  turned-sound = board-sound (turn_cells v (cells b)) ok

  turned-cells : cells (turned_board v b) ≡ turn_cells v (cells b)
  turned-cells = board-cells (turn_cells v (cells b)) ok

-- BOARDS: one turn after another is one turn, and view 0 leaves the board as it is; what follows of three turns and of the return stands in
-- `rules` (proofs/Composed.antt), once for all that is turned
pub boards-turn : Viewable (λ b. board_refusal b ≡ 0) turned_board
boards-turn =
    record {
      stays = λ v b hv e. turned-sound v b hv e;
      after = λ v w b hv hw e.
          ap board_of (ap (turn_cells w) (turned-cells v b hv e) ∙ cells-turn.after v w (cells b) hv hw (length-cells_of b.lines));
      still = λ b e. ap board_of (cells-turn.still (cells b) (length-cells_of b.lines)) ∙ sym (whole-board b e);
    }

-- ---- of the calls: a board was given back, and is asked next

module _ (κs : Lfts 0) (b : Board) (v u : ℕ) (one : Board) (sent : Gave (turned.Post κs (b, (v, tt))) (Ok one)) where
  passed : (board_refusal b ≡ 0) × (v < 8) × (one ≡ turned_board v b)
  passed =
      let none = made-refusal (first (board_refusal b) (view_refusal v)) (turn_cells v (cells b)) sent.1 refl in
      let (e, hv) = first-none (board_refusal b) (view_refusal v) none in
      (e, view_in v hv, made-board (first (board_refusal b) (view_refusal v)) (turn_cells v (cells b)) sent.1 refl)

  -- it is turned on by the next view as `view_then` says
  pub board-then : (w : ℕ) (two whole : Result Board Refusal) → Gave (view_then.Post κs (v, (w, tt))) (Ok u)
      → Gave (turned.Post κs (one, (w, tt))) two → Gave (turned.Post κs (b, (u, tt))) whole
      → (two ≡ Ok (turned_board u b)) × (whole ≡ Ok (turned_board u b))
  board-then w two whole then (s, next) (s', all) =
      let (e, hv, is) = passed in
      let f = then-given κs v w u then in
      let same : turned_board w (turned_board v b) ≡ turned_board u b =
      boards-turn.after v w b hv f.two e ∙ ap (λ (t : ℕ). turned_board t b) (sym f.is) in (
        next ∙ ap (turned_answer w) is ∙ turned_given w (turned_board v b) f.two (turned-sound v b hv e) ∙ ap Ok same,
        all ∙ turned_given u b f.whole e,
      )

  -- by the view that `view_back` gives it is the board that it was
  pub board-back : (two : Result Board Refusal) → Gave (view-back.Post κs (v, tt)) (Ok u) → Gave (turned.Post κs (one, (u, tt))) two
      → two ≡ Ok b
  board-back two back (s, next) =
      let (e, hv, is) = passed in
      let (is-back, _, hu) = back-given κs v u back in
      let same : turned_board u (turned_board v b) ≡ b =
      ap (λ (t : ℕ). turned_board t (turned_board v b)) is-back ∙ returned boards-turn v b hv e in
      next ∙ ap (turned_answer u) is ∙ turned_given u (turned_board v b) hu (turned-sound v b hv e) ∙ ap Ok same
