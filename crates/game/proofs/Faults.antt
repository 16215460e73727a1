-- What a report says of the moves: with no fault its board is that of the moves; a fault at n means that moves 1 to n − 1 have none, that
-- the board is theirs, that nobody is named, and that the reason is that of move n there. Assumes nothing.
use mathlib.Core.Path.{◌≡◌, refl, sym, ap, ◌∙◌}
use mathlib.Core.Bool.{Bool, true, false, cond}
use mathlib.Core.Logic.{◌⊎◌, inl, inr}
use mathlib.Core.List.{List, [], ◌∷◌}
use Prim.Native.Nat.{ℕ, zero, suc, ◌+◌, ◌≤◌}
use native.Mathlib.Omega.{arith}
use lib.ListN.{get_or, take}
use Rattle.std.specs.Prelude.{Option, Some, None}
use Rattle.rules.specs.Numbers.{opponent_of}
use Rattle.rules.specs.Grid.{put, play}
use Rattle.rules.specs.Fives.{makes_five}
use Rattle.rules.specs.declared.Player.{Player}
use Rattle.rules.specs.declared.Player.TheVariants.{Black}
use Rattle.rules.proofs.Logic.{decide}
use Rattle.lent.specs.Lists.{zeros}
use Rattle.cells.specs.Cells.{puts, moves_cells}
use Rattle.game.specs.Game.{is_fault, reason_of, won_after, Report, no_fault, fault_at, report_from, report_of}
use Rattle.game.specs.Answers.{fault_of, fault_no, fault_reason}
use Rattle.game.specs.declared.report.Reason.{Reason}
use Rattle.game.proofs.Read.{from-fault, from-good}

-- a report from number n + 1 on names no fault, or one of these numbers
number-from : (n : ℕ) (r : Player) (won : Option Player) (cells moves : List ℕ)
    → ((report_from (suc n) r won cells moves).number ≡ 0) ⊎ (suc n ≤ (report_from (suc n) r won cells moves).number)
unfolding report_from
number-from n r won cells [] = inl refl
number-from n r won cells (p ∷ moves) =
    go (is_fault (reason_of r won cells p))
    (number-from (suc n) (opponent_of r) (won_after (makes_five r cells p) r) (put r cells p) moves)
  where
    rest : Report
    rest = report_from (suc (suc n)) (opponent_of r) (won_after (makes_five r cells p) r) (put r cells p) moves

    go : (b : Bool) → (rest.number ≡ 0) ⊎ (suc (suc n) ≤ rest.number)
        → ((cond b (fault_at (suc n) (reason_of r won cells p) cells) rest).number ≡ 0)
        ⊎ (suc n ≤ (cond b (fault_at (suc n) (reason_of r won cells p) cells) rest).number)
    go true h = inr (omega arith)
    go false (inl e) = inl e
    go false (inr l) = inr (omega arith)

-- a report without a reason has number 0: the fault that is handed out has the report's number
numbered-from : (n : ℕ) (r : Player) (won : Option Player) (cells moves : List ℕ)
    → fault_no (fault_of (report_from n r won cells moves).number (report_from n r won cells moves).reason)
    ≡ (report_from n r won cells moves).number
unfolding report_from
numbered-from n r won cells [] = refl
numbered-from n r won cells (p ∷ moves) =
    go (reason_of r won cells p) (report_from (suc n) (opponent_of r) (won_after (makes_five r cells p) r) (put r cells p) moves)
    (numbered-from (suc n) (opponent_of r) (won_after (makes_five r cells p) r) (put r cells p) moves)
  where
    go : (why : Option Reason) (rest : Report) → fault_no (fault_of rest.number rest.reason) ≡ rest.number
        → fault_no (fault_of (cond (is_fault why) (fault_at n why cells) rest).number (cond (is_fault why) (fault_at n why cells) rest).reason)
        ≡ (cond (is_fault why) (fault_at n why cells) rest).number
    go None rest h = h
    go (Some why) rest h = refl

pub fault-numbered : (moves : List ℕ) → fault_no (fault_of (report_of moves).number (report_of moves).reason) ≡ (report_of moves).number
unfolding report_of
fault-numbered moves = numbered-from 1 Black None (zeros 225) moves

-- .. and the report's reason
pub fault-reasoned : (n : ℕ) (why : Option Reason) → fault_reason (fault_of n why) ≡ why
fault-reasoned n None = refl
fault-reasoned n (Some why) = refl

-- ---- no fault

played-from : (n : ℕ) (r : Player) (won : Option Player) (cells moves : List ℕ) → (report_from (suc n) r won cells moves).number ≡ 0
    → (report_from (suc n) r won cells moves).cells ≡ play (puts true r moves) cells
unfolding report_from puts play
played-from n r won cells [] e = refl
played-from n r won cells (p ∷ moves) e =
    go (is_fault (reason_of r won cells p)) e
    (played-from (suc n) (opponent_of r) (won_after (makes_five r cells p) r) (put r cells p) moves)
  where
    rest : Report
    rest = report_from (suc (suc n)) (opponent_of r) (won_after (makes_five r cells p) r) (put r cells p) moves

    go : (b : Bool) → (cond b (fault_at (suc n) (reason_of r won cells p) cells) rest).number ≡ 0
        → (rest.number ≡ 0 → rest.cells ≡ play (puts true (opponent_of r) moves) (put r cells p))
        → (cond b (fault_at (suc n) (reason_of r won cells p) cells) rest).cells ≡ play (puts true (opponent_of r) moves) (put r cells p)
    go true q h = absurd (omega arith)
    go false q h = h q

-- a game without a fault has the board of its moves
pub no-fault-board : (moves : List ℕ) → (report_of moves).number ≡ 0 → (report_of moves).cells ≡ moves_cells moves
unfolding report_of moves_cells
no-fault-board moves e = played-from 0 Black None (zeros 225) moves e

-- ---- a fault

-- who plays move n + 1: "Black plays moves 1, 3, 5 .."
abbrev pub mover_from : Player → ℕ → Player
mover_from r zero = r
mover_from r (suc n) = mover_from (opponent_of r) n

-- the report `whole` has its fault i moves on, and `before`, of the moves up to there, has none: what they share, and why move p is faulty
pub record Stopped (r : Player) (i p : ℕ) (whole before : Report) : Type 0 where
  pub clean : before.number ≡ 0
  pub board : whole.cells ≡ before.cells
  pub nobody : whole.winner ≡ None
  pub why : whole.reason ≡ reason_of (mover_from r i) before.winner before.cells p

stopped-from : (n : ℕ) (r : Player) (won : Option Player) (cells moves : List ℕ) (i : ℕ)
    → (report_from (suc n) r won cells moves).number ≡ suc n + i
    → Stopped r i (get_or moves i 0) (report_from (suc n) r won cells moves) (report_from (suc n) r won cells (take i moves))
unfolding report_from
stopped-from n r won cells [] i e = absurd (omega arith)
stopped-from n r won cells (p ∷ moves) zero e = go (decide (is_fault (reason_of r won cells p)))
  where
    go : (is_fault (reason_of r won cells p) ≡ true) ⊎ (is_fault (reason_of r won cells p) ≡ false)
        → Stopped r 0 p (report_from (suc n) r won cells (p ∷ moves)) (no_fault won cells)
    go (inl t) = rw (from-fault (suc n) r won cells p moves t) (record { clean = refl; board = refl; nobody = refl; why = refl })
    go (inr t) =
        late (number-from (suc n) (opponent_of r) (won_after (makes_five r cells p) r) (put r cells p) moves)
        (ap (λ (x : Report). x.number) (sym (from-good (suc n) r won cells p moves t)) ∙ e)
      where
        late : {k : ℕ} → (k ≡ 0) ⊎ (suc (suc n) ≤ k) → k ≡ suc n + 0
            → Stopped r 0 p (report_from (suc n) r won cells (p ∷ moves)) (no_fault won cells)
        late (inl z) q = absurd (omega arith)
        late (inr l) q = absurd (omega arith)
stopped-from n r won cells (p ∷ moves) (suc i) e =
    go (decide (is_fault (reason_of r won cells p)))
    (stopped-from (suc n) (opponent_of r) (won_after (makes_five r cells p) r) (put r cells p) moves i)
  where
    rest : List ℕ → Report
    rest x = report_from (suc (suc n)) (opponent_of r) (won_after (makes_five r cells p) r) (put r cells p) x

    go : (is_fault (reason_of r won cells p) ≡ true) ⊎ (is_fault (reason_of r won cells p) ≡ false)
        → ((rest moves).number ≡ suc (suc n) + i → Stopped (opponent_of r) i (get_or moves i 0) (rest moves) (rest (take i moves)))
        → Stopped r (suc i) (get_or moves i 0) (report_from (suc n) r won cells (p ∷ moves))
        (report_from (suc n) r won cells (p ∷ take i moves))
    go (inl t) ih =
        let q : suc n ≡ suc n + suc i = ap (λ (x : Report). x.number) (sym (from-fault (suc n) r won cells p moves t)) ∙ e in
        absurd (omega arith)
    go (inr t) ih =
        let q : (rest moves).number ≡ suc n + suc i = ap (λ (x : Report). x.number) (sym (from-good (suc n) r won cells p moves t)) ∙ e in
        let s = ih (omega arith) in
        rw (from-good (suc n) r won cells p moves t, from-good (suc n) r won cells p (take i moves) t)
        (record { clean = s.clean; board = s.board; nobody = s.nobody; why = s.why })

-- A fault at n + 1: the first n moves alone have none, the board handed back is theirs, no winner is named, and the reason is that of the
-- next move on that board.
pub fault-stops : (moves : List ℕ) (n : ℕ) → (report_of moves).number ≡ suc n
    → Stopped Black n (get_or moves n 0) (report_of moves) (report_of (take n moves))
unfolding report_of
fault-stops moves n e = stopped-from 0 Black None (zeros 225) moves n (e ∙ (let q : suc n ≡ 1 + n = omega arith in q))

-- so that board is the board of these moves
pub fault-board : (moves : List ℕ) (n : ℕ) → (report_of moves).number ≡ suc n → (report_of moves).cells ≡ moves_cells (take n moves)
fault-board moves n e = let s = fault-stops moves n e in s.board ∙ no-fault-board (take n moves) s.clean
