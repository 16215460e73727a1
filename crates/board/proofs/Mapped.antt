-- Any sequence of calls on a board that is not refused answers as a plain map, and each call is refused by its numbers alone, whatever came
-- before. Assumes nothing.
use mathlib.Core.Path.{◌≡◌, refl, ap, sym, ◌∙◌}
use mathlib.Core.Bool.{true, false, cond}
use mathlib.Core.Logic.{◌⊎◌, inl, inr}
use mathlib.Core.List.{List, [], ◌∷◌}
use Rattle.std.specs.Prelude.{Result, Ok, Err}
use Prim.Native.Nat.{ℕ, ◌<◌}
use lib.Dec.{eqb}
use lib.ListN.{get_or}
use Rattle.rules.specs.Refusals.{first}
use Rattle.rules.specs.Grid.{play}
use Rattle.rules.specs.Answers.{answer, refusal_named}
use Rattle.rules.specs.declared.refusal.Refusal.{Refusal}
use Rattle.rules.proofs.Logic.{decide}
use Rattle.cells.specs.Cells.{Cells}
use Rattle.cells.specs.Calls.{Call, call_put, call_remove, call_cells, calls_cells, numbers_refusal, change_of, calls_map}
use Rattle.cells.proofs.Given.{play-ok}
use Rattle.cells.proofs.Mapped.{call-does, calls-map}
use Rattle.grid.proofs.Lines.{cells-cells_of}
use Rattle.board.specs.Boards.{cells, board_of, board_refusal, refusal_at, refusal_for}
use Rattle.board.specs.Answers.{board_answer}
use Rattle.board.specs.Calls.{call_answer, kept_board, calls_board}
use Rattle.board.specs.declared.board.Board.{Board}
use Rattle.board.proofs.Given.{board-sound, board-cells}

-- ---- one call

-- what it answers: its change, or the refusal of its numbers
call-answered : (call : Call) (b : Board) → board_refusal b ≡ 0
    → call_answer call b ≡ board_answer (numbers_refusal call) (play (change_of call ∷ []) (cells b))
unfolding call_answer numbers_refusal refusal_for refusal_at first play
call-answered (call_put p colour) b e = rw e
call-answered (call_remove p) b e = rw e

-- the caller's board after it is sound, and has the cells after it
call_kept : (call : Call) (b : Board) → board_refusal b ≡ 0
    → (board_refusal (kept_board b (call_answer call b)) ≡ 0) × (cells (kept_board b (call_answer call b)) ≡ call_cells call (cells b))
unfolding kept_board board_answer answer
call_kept call b e =
    rw (call-answered call b e, call-does call (cells b) (cells-cells_of b.lines)) (go (decide (eqb (numbers_refusal call) 0)))
  where
    next : List ℕ
    next = play (change_of call ∷ []) (cells b)

    told : Result Board Refusal
    told = cond (eqb (numbers_refusal call) 0) (Ok (board_of next)) (Err (refusal_named (numbers_refusal call)))

    ok : Cells next
    ok = play-ok (change_of call ∷ []) (cells b) (cells-cells_of b.lines)

    go : (eqb (numbers_refusal call) 0 ≡ true) ⊎ (eqb (numbers_refusal call) 0 ≡ false)
        → (board_refusal (kept_board b told) ≡ 0) × (cells (kept_board b told) ≡ cond (eqb (numbers_refusal call) 0) next (cells b))
    go (inl t) = rw t (board-sound next ok, board-cells next ok)
    go (inr t) = rw t (e, refl)

-- ---- calls, one after the other

pub calls-kept : (calls : List Call) (b : Board) → board_refusal b ≡ 0
    → (board_refusal (calls_board calls b) ≡ 0) × (cells (calls_board calls b) ≡ calls_cells calls (cells b))
unfolding calls_board calls_cells
calls-kept [] b e = (e, refl)
calls-kept (call ∷ calls) b e =
    let one = call_kept call b e in
    let all = calls-kept calls (kept_board b (call_answer call b)) one.0 in
    (all.0, all.1 ∙ ap (calls_cells calls) one.1)

-- "Any sequence of both answers as a plain map from 225 points to empty, black or white."
pub board-map : (calls : List Call) (b : Board) → board_refusal b ≡ 0 → (q : ℕ) → q < 225
    → get_or (cells (calls_board calls b)) q 0 ≡ calls_map calls (λ p. get_or (cells b) p 0) q
board-map calls b e q h =
    ap (λ (x : List ℕ). get_or x q 0) (calls-kept calls b e).1 ∙ calls-map calls (cells b) (cells-cells_of b.lines) q h

-- .. with their refusals: 8, then 12, by the numbers of the call alone, whatever came before; where there is none, with its change
pub board-refused : (calls : List Call) (call : Call) (b : Board) → board_refusal b ≡ 0
    → call_answer call (calls_board calls b) ≡ board_answer (numbers_refusal call) (play (change_of call ∷ []) (cells (calls_board calls b)))
board-refused calls call b e = call-answered call (calls_board calls b) (calls-kept calls b e).0
