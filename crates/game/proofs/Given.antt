-- The board of an answer: sound, and with the report's cells. Assumes nothing.
use mathlib.Core.Path.{◌≡◌, refl, ap, ◌∙◌}
use mathlib.Core.Bool.{Bool, true, false, cond}
use mathlib.Core.List.{List, [], ◌∷◌}
use Prim.Native.Nat.{ℕ, suc}
use lib.Dec.{eqb}
use Rattle.std.specs.Prelude.{Option, None, Result, Ok, Err}
use Rattle.rules.specs.Answers.{answer, refusal_named}
use Rattle.rules.specs.declared.refusal.Refusal.{Refusal}
use Rattle.rules.proofs.Refusals.{answered, answered_err}
use borrow.Author.Tests.{eq-eqb, ne_eqb}
use Rattle.rules.specs.Numbers.{opponent_of}
use Rattle.rules.specs.Grid.{put}
use Rattle.rules.specs.Fives.{makes_five}
use Rattle.rules.specs.declared.Player.{Player}
use Rattle.rules.specs.declared.Player.TheVariants.{Black}
use Rattle.lent.specs.Lists.{zeros}
use Rattle.cells.specs.Cells.{Cells}
use Rattle.cells.proofs.Given.{cells-zeros, put-ok}
use Rattle.board.specs.Boards.{cells, board_refusal}
use Rattle.board.proofs.Given.{board-sound, board-cells}
use Rattle.game.specs.Game.{is_fault, reason_of, won_after, Report, fault_at, report_from, report_of}
use Rattle.game.specs.Answers.{reported, game_report}
use Rattle.game.specs.declared.report.GameReport.{GameReport}

from-ok : (n : ℕ) (r : Player) (won : Option Player) (c moves : List ℕ) → Cells c → Cells (report_from n r won c moves).cells
unfolding report_from
from-ok n r won c [] ok = ok
from-ok n r won c (p ∷ moves) ok =
    go (is_fault (reason_of r won c p)) (report_from (suc n) (opponent_of r) (won_after (makes_five r c p) r) (put r c p) moves)
    (from-ok (suc n) (opponent_of r) (won_after (makes_five r c p) r) (put r c p) moves (put-ok r c p ok))
  where
    go : (b : Bool) (rest : Report) → Cells rest.cells → Cells (cond b (fault_at n (reason_of r won c p) c) rest).cells
    go true rest h = ok
    go false rest h = h

-- a report's cells are 225 of 0, 1 or 2
pub report-ok : (moves : List ℕ) → Cells (report_of moves).cells
unfolding report_of
report-ok moves = from-ok 1 Black None (zeros 225) moves cells-zeros

module _ (refused : ℕ) (moves : List ℕ) {r : GameReport} (e : game_report refused (report_of moves) ≡ Ok r) where
  given : r ≡ reported (report_of moves)
  unfolding game_report
  given = (answered refused (reported (report_of moves)) refl e).1

  -- every answer's board is sound
  pub answer-sound : board_refusal r.board ≡ 0
  unfolding reported
  answer-sound = ap (λ (x : GameReport). board_refusal x.board) given ∙ board-sound (report_of moves).cells (report-ok moves)

  -- and it has the report's cells
  pub answer-cells : cells r.board ≡ (report_of moves).cells
  unfolding reported
  answer-cells = ap (λ (x : GameReport). cells x.board) given ∙ board-cells (report_of moves).cells (report-ok moves)

-- an answer says what was refused
pub answer-refused : (refused : ℕ) (report : Report) {e : Refusal} → game_report refused report ≡ Err e → e ≡ refusal_named refused
unfolding game_report
answer-refused refused report was = (answered_err refused (reported report) refl was).1

-- .. exactly where something was
pub answer-told : (refused : ℕ) (report : Report)
    → (refused ≡ 0 → game_report refused report ≡ Ok (reported report))
    × ((refused ≡ 0 → ⊥) → game_report refused report ≡ Err (refusal_named refused))
unfolding game_report answer
answer-told refused report = (λ z. rw (eq-eqb refused 0 z), λ n. rw (ne_eqb refused 0 n))
