-- A game's report handed out: its board's cells are those of the moves before the fault, its bytes those of the report, or nothing is
-- written. Assumes nothing.
use mathlib.Core.Path.{◌≡◌, refl, sym, ap, ap₂, ◌∙◌}
use mathlib.Core.Bool.{Bool, true, false}
use mathlib.Core.List.{List, [], ◌++◌}
use Prim.Native.Nat.{ℕ, zero, suc, ◌-◌, ◌<◌}
use native.Mathlib.Omega.{arith}
use lib.Dec.{eqb, leb, ltb}
use lib.ListN.{length, get_or, take, length-take}
use lib.Seq.{get_or-take}
use borrow.Author.Tests.{lt-ltb, eqb-false}
use Rattle.std.specs.Prelude.{Option, Result, Ok, Err}
use Rattle.rules.specs.Refusals.{many_moves, unless}
use Rattle.rules.specs.Answers.{answer, checked, refusal_named}
use Rattle.rules.specs.declared.refusal.Refusal.{Refusal}
use Rattle.rules.specs.Tools.{all_below}
use Rattle.rules.proofs.Logic.{true-T, all-intro}
use Rattle.rules.proofs.Refusals.{first-none, pass}
use Rattle.lent.specs.Lists.{kept, list_refusal, list_out}
use Rattle.lent.proofs.Laws.{kept_lem, kept_out}
use Rattle.cells.specs.Cells.{codes_refusal, moves_refusal, moves_cells}
use Rattle.cells.proofs.Given.{moves-in}
use Rattle.game.specs.Game.{report_of}
use Rattle.game.specs.Answers.{fault_no, fault_reason, reported}
use Rattle.game.specs.declared.report.Reason.{Reason}
use Rattle.game.specs.declared.report.GameReport.{GameReport}
use Rattle.game.proofs.Faults.{no-fault-board, fault-board, fault-numbered, fault-reasoned}
use Rattle.renju.proofs.Words.{told_err, told_ok}
use Rattle.renju.specs.Games.{standing, report_bytes, game_bytes}

-- ---- the cells of a report's board are those of the moves before the fault, or of all

pub report-cells : (moves : List ℕ) (n : ℕ) → (report_of moves).number ≡ n → (report_of moves).cells ≡ moves_cells (standing n moves)
report-cells moves zero e = no-fault-board moves e
report-cells moves (suc n) e = fault-board moves n e

-- the first codes of some that all name points do so too
codes-taken : (moves : List ℕ) (n : ℕ) → ((i : ℕ) → i < length moves → get_or moves i 0 < 225) → codes_refusal (take n moves) ≡ 0
unfolding codes_refusal
codes-taken moves n h =
    pass (all_below (length (take n moves)) (λ i. ltb (get_or (take n moves) i 0) 225)) 8
    (all-intro (length (take n moves)) (λ i. ltb (get_or (take n moves) i 0) 225)
    (λ i l.
    let short = length-take n moves in
    true-T (lt-ltb (get_or (take n moves) i 0) 225 (rw (get_or-take n moves i 0 (omega arith)) (h i (omega arith))))))

codes-standing : (moves : List ℕ) (n : ℕ) → moves_refusal moves ≡ 0 → codes_refusal (standing n moves) ≡ 0
unfolding moves_refusal
codes-standing moves zero e = (first-none (unless (leb (length moves) 225) many_moves) (codes_refusal moves) e).1
codes-standing moves (suc n) e = codes-taken moves n (moves-in moves e).1

-- the moves before the fault, by its number
pub standing-some : (n : ℕ) (moves : List ℕ) → (n ≡ 0 → ⊥) → take (n - 1) moves ≡ standing n moves
standing-some zero moves h = absurd (h refl)
standing-some (suc n) moves h = let q : suc n - 1 ≡ n = omega arith in ap (λ (k : ℕ). take k moves) q

-- .. whose codes are not refused
pub never-refused : (moves : List ℕ) (n : ℕ) {a : Result (List ℕ) Refusal} {x : Refusal} → moves_refusal moves ≡ 0
    → a ≡ answer (codes_refusal (standing n moves)) (moves_cells (standing n moves)) → a ≡ Err x → ⊥
unfolding answer
never-refused moves n e ea told =
    let z : Ok (moves_cells (standing n moves)) ≡ Err _ = sym (rw (codes-standing moves n e) at ea) ∙ told in cc

-- ---- the bytes of a report

-- the number that is handed out is the report's
pub number-given : (moves : List ℕ) {report : GameReport} → report ≡ reported (report_of moves)
    → fault_no report.fault ≡ (report_of moves).number
unfolding reported
number-given moves e = ap (λ (r : GameReport). fault_no r.fault) e ∙ fault-numbered moves

pub bytes-given : (moves : List ℕ) {report : GameReport} {cells : List ℕ} → report ≡ reported (report_of moves)
    → cells ≡ moves_cells (standing (fault_no report.fault) moves)
    → report_bytes (fault_no report.fault) (fault_reason report.fault) report.winner cells ≡ game_bytes moves
unfolding game_bytes reported
bytes-given moves {report} {cells} e ec =
    let number : (report_of moves).number ≡ fault_no report.fault = sym (number-given moves e) in
    ap (report_bytes (fault_no report.fault) (fault_reason report.fault) report.winner)
    (ec ∙ sym (report-cells moves (fault_no report.fault) number))
    ∙ ap (λ (r : GameReport). report_bytes (fault_no r.fault) (fault_reason r.fault) r.winner (report_of moves).cells) e
    ∙ ap₂ (λ (n : ℕ) (why : Option Reason). report_bytes n why (report_of moves).winner (report_of moves).cells) (fault-numbered moves)
    (fault-reasoned (report_of moves).number (report_of moves).reason)

-- three bytes and 225 cells, kept one after the other
pub bytes-kept : (head tail : List ℕ) {none one all : List ℕ} → length head ≡ 3 → length tail ≡ 225 → none ≡ [] → one ≡ kept 228 none head
    → all ≡ kept 228 one tail → all ≡ head ++ tail
bytes-kept head tail h t z one all =
    all ∙ rw (one, z, kept_lem 228 [] head (omega arith)) (kept_lem 228 head tail (omega arith))

-- ---- what is handed out of it

module _ {A B : Type 0} (told : ℕ) (out l : List ℕ) (v : A) {r : Result A Refusal} {x : Refusal} where
  -- it was refused before
  pub refused-out : (w : B) → answer told w ≡ Err x → r ≡ Err x → (r ≡ answer (list_refusal told out l) v) × (out ≡ list_out told out l)
  unfolding answer
  refused-out w e k = go (eqb told 0) refl
    where
      go : (t : Bool) → eqb told 0 ≡ t → (r ≡ answer (list_refusal told out l) v) × (out ≡ list_out told out l)
      go true q = let z : Ok w ≡ Err x = rw q at e in cc
      go false q =
          let o = kept_out told out l (eqb-false told 0 q) in
          let z : Err (refusal_named told) ≡ Err x = rw q at e in
          let s : x ≡ refusal_named told = cc in
          (k ∙ rw (o.0, q, s), o.1)

-- it is written, or there is no room
module _ (moves out : List ℕ) (none : moves_refusal moves ≡ 0) {bytes : List ℕ} (is : bytes ≡ game_bytes moves) {w : Result Unit Refusal}
    {out' : List ℕ} (told : (w ≡ checked (list_refusal 0 out bytes)) × (out' ≡ list_out 0 out bytes)) (v : ℕ) where
  pub unwritten : {r : Result ℕ Refusal} {x : Refusal} → w ≡ Err x → r ≡ Err x
      → (r ≡ answer (list_refusal (moves_refusal moves) out (game_bytes moves)) v) × (out' ≡ list_out (moves_refusal moves) out (game_bytes moves))
  unwritten e k = rw (none, sym is) (told_err (list_refusal 0 out bytes) tt v told.0 e k, told.1)

  pub written_out : {n : ℕ} → w ≡ Ok tt → n ≡ v
      → (Ok n ≡ answer (list_refusal (moves_refusal moves) out (game_bytes moves)) v) × (out' ≡ list_out (moves_refusal moves) out (game_bytes moves))
  written_out {n} e same = rw (none, sym is) (ap (λ (k : ℕ). Ok k) same ∙ told_ok (list_refusal 0 out bytes) tt v told.0 e, told.1)
