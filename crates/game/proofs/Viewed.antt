-- THE EIGHT VIEWS of a game: the report of the turned moves is the same report with the board turned. Assumes nothing.
use mathlib.Core.Path.{◌≡◌, refl, sym, ap, ap₂, ◌∙◌}
use mathlib.Core.Bool.{Bool, true, false}
use mathlib.Core.Logic.{◌⊎◌, inl, inr}
use mathlib.Core.List.{List, [], ◌∷◌}
use Prim.Native.Nat.{ℕ, zero, suc, ◌<◌}
use native.Mathlib.Omega.{arith}
use lib.Dec.{leb, ltb, le→leb}
use lib.ListN.{length, get_or, length-set}
use borrow.Author.Tests.{lt-ltb}
use Rattle.std.specs.Prelude.{Option, None}
use Rattle.rules.specs.Numbers.{colour_no, opponent_of}
use Rattle.rules.specs.Refusals.{many_moves, unless}
use Rattle.rules.specs.Tools.{all_below}
use Rattle.rules.specs.Grid.{put}
use Rattle.rules.specs.Fives.{makes_five}
use Rattle.rules.specs.Views.{turn, turn_cells}
use Rattle.rules.specs.declared.Player.{Player}
use Rattle.rules.specs.declared.Player.TheVariants.{Black}
use Rattle.rules.proofs.Logic.{decide, true-T, all-intro}
use Rattle.rules.proofs.Refusals.{none_first, pass}
use Rattle.rules.proofs.Turns.{turn-lt}
use Rattle.rules.proofs.Eight.{turned-put}
use Rattle.rules.proofs.Views.{turned-cells, turned-one, strict-view}
use Rattle.rules.proofs.Fives.{five-view}
use Rattle.lent.specs.Lists.{zeros}
use Rattle.lent.proofs.Laws.{length-zeros, zeros-at}
use Rattle.cells.specs.Cells.{codes_refusal, moves_refusal}
use Rattle.cells.proofs.Given.{moves-in}
use Rattle.game.specs.Game.{is_fault, is_forbidden, reason_of, won_after, Report, fault_at, report_from, report_of}
use Rattle.game.specs.Answers.{game_report}
use Rattle.game.specs.declared.report.Reason.{Reason}
use Rattle.game.proofs.Read.{from-fault, from-good}

-- the moves in a view, and a report with its board turned
unfoldable pub turn_moves : ℕ → List ℕ → List ℕ
turn_moves v [] = []
turn_moves v (p ∷ moves) = turn v p ∷ turn_moves v moves

abbrev pub turn_report : ℕ → Report → Report
turn_report v x = record { number = x.number; reason = x.reason; winner = x.winner; cells = turn_cells v x.cells }

module _ (v : ℕ) (hv : v < 8) where
  -- a stone put on the turned board is the stone turned
  turned-stone : (r : Player) (cells : List ℕ) (p : ℕ) → length cells ≡ 225 → p < 225
      → put r (turn_cells v cells) (turn v p) ≡ turn_cells v (put r cells p)
  turned-stone r cells p l hp = turned-one hv (turned-put r p hv hp (turned-cells v cells hv l))

  -- the empty board is the same in every view
  turned-zeros : zeros 225 ≡ turn_cells v (zeros 225)
  turned-zeros =
      turned-one hv
      (record { len_a = length-zeros 225; len_b = length-zeros 225; same = λ p hp. zeros-at 225 (turn v p) ∙ sym (zeros-at 225 p) })

  -- the reason of a move
  reason-view : (r : Player) (won : Option Player) (cells : List ℕ) (p : ℕ) → length cells ≡ 225 → p < 225
      → reason_of r won (turn_cells v cells) (turn v p) ≡ reason_of r won cells p
  unfolding reason_of is_forbidden
  reason-view r won cells p l hp = rw ((turned-cells v cells hv l).same p hp, strict-view v cells p hv l hp)

  view-from : (n : ℕ) (r : Player) (won : Option Player) (cells moves : List ℕ) → length cells ≡ 225
      → ((i : ℕ) → i < length moves → get_or moves i 0 < 225)
      → report_from n r won (turn_cells v cells) (turn_moves v moves) ≡ turn_report v (report_from n r won cells moves)
  unfolding report_from turn_moves
  view-from n r won cells [] l h = refl
  view-from n r won cells (p ∷ moves) l h =
      go (decide (is_fault (reason_of r won cells p)))
      (view-from (suc n) (opponent_of r) (won_after (makes_five r cells p) r) (put r cells p) moves (length-set cells p (colour_no r) ∙ l)
      (λ i hi. h (suc i) (omega arith)))
    where
      hp : p < 225
      hp = h 0 (omega arith)

      same : reason_of r won (turn_cells v cells) (turn v p) ≡ reason_of r won cells p
      same = reason-view r won cells p l hp

      rest : List ℕ → List ℕ → Report
      rest c x = report_from (suc n) (opponent_of r) (won_after (makes_five r cells p) r) c x

      go : (is_fault (reason_of r won cells p) ≡ true) ⊎ (is_fault (reason_of r won cells p) ≡ false)
          → rest (turn_cells v (put r cells p)) (turn_moves v moves) ≡ turn_report v (rest (put r cells p) moves)
          → report_from n r won (turn_cells v cells) (turn v p ∷ turn_moves v moves) ≡ turn_report v (report_from n r won cells (p ∷ moves))
      go (inl t) ih =
          from-fault n r won (turn_cells v cells) (turn v p) (turn_moves v moves) (ap is_fault same ∙ t)
          ∙ ap (λ (w : Option Reason). fault_at n w (turn_cells v cells)) same
          ∙ ap (turn_report v) (sym (from-fault n r won cells p moves t))
      go (inr t) ih =
          from-good n r won (turn_cells v cells) (turn v p) (turn_moves v moves) (ap is_fault same ∙ t)
          ∙ ap (λ (b : Bool). report_from (suc n) (opponent_of r) (won_after b r) (put r (turn_cells v cells) (turn v p)) (turn_moves v moves))
          (five-view r v cells p hv l hp)
          ∙ ap (λ (c : List ℕ). rest c (turn_moves v moves)) (turned-stone r cells p l hp)
          ∙ ih ∙ ap (turn_report v) (sym (from-good n r won cells p moves t))

-- all eight views, of every list of moves that is not refused
pub report-view : (v : ℕ) (moves : List ℕ) → v < 8 → moves_refusal moves ≡ 0 → report_of (turn_moves v moves) ≡ turn_report v (report_of moves)
unfolding report_of
report-view v moves hv e =
    ap (λ (c : List ℕ). report_from 1 Black None c (turn_moves v moves)) (turned-zeros v hv)
    ∙ view-from v hv 1 Black None (zeros 225) moves (length-zeros 225) (moves-in moves e).1

-- the turned moves are not refused either
turned-length : (v : ℕ) (moves : List ℕ) → length (turn_moves v moves) ≡ length moves
unfolding turn_moves
turned-length v [] = refl
turned-length v (p ∷ moves) = ap suc (turned-length v moves)

turned-at : (v : ℕ) (moves : List ℕ) (i : ℕ) → i < length moves → get_or (turn_moves v moves) i 0 ≡ turn v (get_or moves i 0)
unfolding turn_moves
turned-at v [] i h = absurd (omega arith)
turned-at v (p ∷ moves) zero h = refl
turned-at v (p ∷ moves) (suc i) h = turned-at v moves i (omega arith)

pub refusal-view : (v : ℕ) (moves : List ℕ) → v < 8 → moves_refusal moves ≡ 0 → moves_refusal (turn_moves v moves) ≡ 0
unfolding moves_refusal codes_refusal
refusal-view v moves hv e =
    let few = (moves-in moves e).0 in
    let named = (moves-in moves e).1 in
    let long = turned-length v moves in
    none_first (unless (leb (length (turn_moves v moves)) 225) many_moves) (codes_refusal (turn_moves v moves))
    (pass (leb (length (turn_moves v moves)) 225) 14 (le→leb (length (turn_moves v moves)) 225 (omega arith)))
    (pass (all_below (length (turn_moves v moves)) (λ i. ltb (get_or (turn_moves v moves) i 0) 225)) 8
    (all-intro (length (turn_moves v moves)) (λ i. ltb (get_or (turn_moves v moves) i 0) 225)
    (λ i h.
    let l : i < length moves = omega arith in
    true-T (lt-ltb (get_or (turn_moves v moves) i 0) 225 (rw (turned-at v moves i l) (turn-lt v (get_or moves i 0) hv (named i l)))))))

-- so what is answered of the turned moves is the same report with the board turned
pub answer-view : (v : ℕ) (moves : List ℕ) → v < 8 → moves_refusal moves ≡ 0
    → game_report (moves_refusal (turn_moves v moves)) (report_of (turn_moves v moves)) ≡ game_report 0 (turn_report v (report_of moves))
answer-view v moves hv e = ap₂ game_report (refusal-view v moves hv e) (report-view v moves hv e)
