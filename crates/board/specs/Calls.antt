-- Calls on a board by value, one after the other, each on the board that the last one answered. "Any sequence of both answers as a plain
-- map from 225 points to empty, black or white." (proofs/Mapped.antt)
use Rattle.std.specs.Prelude.{List, [], ◌∷◌, Result, Ok, Err}
use Rattle.rules.specs.declared.refusal.Refusal.{Refusal}
use Rattle.cells.specs.Calls.{Call, call_put, call_remove}
use Rattle.board.specs.Answers.{put_answer, remove_answer}
use Rattle.board.specs.declared.board.Board.{Board}

-- what a call answers: `Board::put` and `Board::remove`
unfoldable pub call_answer : Call → Board → Result Board Refusal
call_answer (call_put p colour) b = put_answer b p colour
call_answer (call_remove p) b = remove_answer b p

-- the caller's board after it: the one that was answered, or, where the call was refused, the one that it had
unfoldable pub kept_board : Board → Result Board Refusal → Board
kept_board b (Ok answered) = answered
kept_board b (Err refusal) = b

-- .. after calls, one after the other
unfoldable pub calls_board : List Call → Board → Board
calls_board [] b = b
calls_board (call ∷ calls) b = calls_board calls (kept_board b (call_answer call b))
