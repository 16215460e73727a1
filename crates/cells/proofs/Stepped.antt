-- A turned board filled in column by column: a view sends the points of a column a step apart. Assumes nothing.
use mathlib.Core.Path.{◌≡◌, sym, ap, ◌∙◌}
use mathlib.Core.Bool.{true, false}
use mathlib.Core.Logic.{◌⊎◌, inl, inr}
use mathlib.Core.List.{List, ◌++◌}
use Prim.Native.Nat.{ℕ, ◌+◌, ◌-◌, ◌%◌, ◌≤◌, ◌<◌}
use native.Mathlib.Omega.{arith}
use lib.Dec.{eqb, ltb, leb, eqb→eq, leb→le}
use lib.ListN.{length, get_or, take, drop, set, get_or-append, get_or-eq_default}
use lib.Seq.{get_or-take, get_or-drop, get_or-append-add, length-take-le, take_all}
use borrow.Author.Tests.{lt-ltb, ltb-true, ltb-false}
use Rattle.rules.specs.Tools.{all_below}
use Rattle.rules.specs.Point.{x_of, y_of, code_of}
use Rattle.rules.specs.Views.{turn, views, turn_cells, undo}
use Rattle.rules.proofs.Logic.{true-T, implies, implied, all-elim, all2, decide}
use Rattle.rules.proofs.Lists.{tab-cong}
use Rattle.rules.proofs.Turns.{turn-lt}
use Rattle.lent.specs.Lists.{zeros, laid}
use Rattle.lent.proofs.Laws.{zeros-at}
use Rattle.cells.specs.Turned.{turned_to}
use Rattle.cells.proofs.Filled.{filled, filled_none, filled_more, filled-all}

-- ---- a view over 7 is taken for 7

turn-over : (v : ℕ) → 8 ≤ v → (q : ℕ) → turn v q ≡ turn 7 q
unfolding turn
turn-over v h q =
    ap (λ (z : ℕ × ℕ). code_of z.0 z.1) (get_or-eq_default (views (x_of q) (y_of q)) (14 - y_of q, 14 - x_of q) {n = v} h)

-- so what holds of the eight holds of every number
every-view : (P : ℕ → Type 0) → ((v : ℕ) → v < 8 → P v) → ((v : ℕ) → 8 ≤ v → P 7 → P v) → (v : ℕ) → P v
every-view P eight over v = go (decide (ltb v 8))
  where
    go : (ltb v 8 ≡ true) ⊎ (ltb v 8 ≡ false) → P v
    go (inl t) = eight v (ltb-true v 8 t)
    go (inr t) = over v (ltb-false v 8 t) (eight 7 (omega arith))

-- ---- points of a column, by computed tests

next-in : (v q : ℕ) → v < 8 → q < 225 → q % 15 < 14 → turn v (q + 1) + turn v 0 ≡ turn v q + turn v 1
unfolding all_below turn
next-in v q hv hq h =
    eqb→eq (turn v (q + 1) + turn v 0) (turn v q + turn v 1)
    (implied (ltb (q % 15) 14) (eqb (turn v (q + 1) + turn v 0) (turn v q + turn v 1))
    (all2 8 225 (λ v q. implies (ltb (q % 15) 14) (eqb (turn v (q + 1) + turn v 0) (turn v q + turn v 1))) tt v q hv hq)
    (true-T (lt-ltb (q % 15) 14 h)))

-- the next point of a column is as far on as the second is from the first
pub turn-next : (q : ℕ) → q < 225 → q % 15 < 14 → (v : ℕ) → turn v (q + 1) + turn v 0 ≡ turn v q + turn v 1
turn-next q hq h =
    every-view (λ v. turn v (q + 1) + turn v 0 ≡ turn v q + turn v 1) (λ v hv. next-in v q hv hq h)
    (λ v o k. rw (turn-over v o (q + 1), turn-over v o 0, turn-over v o q, turn-over v o 1) k)

near-in : (v : ℕ) → v < 8 → turn v 0 ≤ turn v 1 + 15
unfolding all_below turn
near-in v hv = leb→le (turn v 0) (turn v 1 + 15) (all-elim 8 (λ v. leb (turn v 0) (turn v 1 + 15)) tt v hv)

pub turn_near : (v : ℕ) → turn v 0 ≤ turn v 1 + 15
turn_near = every-view (λ v. turn v 0 ≤ turn v 1 + 15) near-in (λ v o k. rw (turn-over v o 0, turn-over v o 1) k)

pub turn_in : (q : ℕ) → q < 225 → (v : ℕ) → turn v q < 225
turn_in q hq = every-view (λ v. turn v q < 225) (λ v hv. turn-lt v q hv hq) (λ v o k. rw (turn-over v o q) k)

-- ---- filled in

pub turned_none : (v : ℕ) (cells : List ℕ) → zeros 225 ≡ turned_to 0 v cells
unfolding turned_to filled
turned_none v cells = filled_none 225 (λ q. get_or cells (turn v q) 0)

pub turned_more : (v : ℕ) (cells : List ℕ) (q at : ℕ) → q < 225 → at ≡ turn v q
    → set (turned_to q v cells) q (get_or cells at 0) ≡ turned_to (q + 1) v cells
unfolding turned_to filled
turned_more v cells q at hq e =
    ap (λ (n : ℕ). set (turned_to q v cells) q (get_or cells n 0)) e ∙ filled_more 225 (λ q. get_or cells (turn v q) 0) q hq

-- 225 cells copied from what was lent: the same cells, and where there are less, 0
pub copied : (cells : List ℕ) (p : ℕ) → p < 225 → get_or (laid (zeros 225) (take 225 cells)) p 0 ≡ get_or cells p 0
unfolding laid
copied cells p hp =
    go (decide (ltb p (length (take 225 cells)))) (behind (decide (ltb (length cells) 225)))
  where
    behind : (ltb (length cells) 225 ≡ true) ⊎ (ltb (length cells) 225 ≡ false) → length (take 225 cells) ≤ p → length cells ≤ p
    behind (inl t) l =
        let h = ltb-true (length cells) 225 t in
        let e = ap length (take_all 225 cells (omega arith)) in
        omega arith
    behind (inr t) l = let h = length-take-le 225 cells (ltb-false (length cells) 225 t) in absurd (omega arith)

    go : (ltb p (length (take 225 cells)) ≡ true) ⊎ (ltb p (length (take 225 cells)) ≡ false)
        → (length (take 225 cells) ≤ p → length cells ≤ p)
        → get_or (take 225 cells ++ drop (length (take 225 cells)) (zeros 225)) p 0 ≡ get_or cells p 0
    go (inl t) over =
        get_or-append (take 225 cells) (drop (length (take 225 cells)) (zeros 225)) 0 p (ltb-true p _ t) ∙ get_or-take 225 cells p 0 hp
    go (inr t) over =
        let n = length (take 225 cells) in
        let l = ltb-false p n t in
        let at : p ≡ n + (p - n) = omega arith in
        ap (λ (k : ℕ). get_or (take 225 cells ++ drop n (zeros 225)) k 0) at
        ∙ get_or-append-add (take 225 cells) (drop n (zeros 225)) (p - n) 0
        ∙ get_or-drop n (zeros 225) (p - n) 0
        ∙ zeros-at 225 (n + (p - n))
        ∙ sym (get_or-eq_default cells 0 {n = p} (over l))

-- all filled in, it is the turned board
pub turned-all : (view : ℕ) (cells from : List ℕ) → ((p : ℕ) → p < 225 → get_or from p 0 ≡ get_or cells p 0)
    → turned_to 225 (undo view) from ≡ turn_cells view cells
unfolding turned_to turn_cells filled
turned-all view cells from same =
    filled-all 225 (λ q. get_or from (turn (undo view) q) 0)
    ∙ tab-cong 225 (λ q. get_or from (turn (undo view) q) 0) (λ q. get_or cells (turn (undo view) q) 0)
    (λ q hq. same (turn (undo view) q) (turn_in q hq (undo view)))
