-- What is known of cells where nothing is refused, and that every change leaves 225 cells of 0, 1 or 2. Assumes nothing.
use mathlib.Core.Path.{◌≡◌, refl, ap, sym, ◌∙◌}
use mathlib.Core.Bool.{Bool, true, false, not, ◌&&◌, ◌||◌, cond}
use mathlib.Core.Logic.{◌⊎◌, inl, inr}
use mathlib.Core.List.{List, [], ◌∷◌}
use Prim.Native.Nat.{ℕ, zero, suc, ◌+◌, ◌<◌, ◌≤◌}
use native.Mathlib.Nat.{not-suc-le-zero, le_of_suc-le-suc}
use native.Mathlib.Numerals.{add-one}
use native.Mathlib.Omega.{arith}
use native.Mathlib.Decide.{ℕ_discrete}
use lib.Dec.{T, eqb, leb, ltb, leb→le, le→leb, ltb→lt, leb-suc-suc}
use lib.ListN.{length, get_or, set, drop, length-set, get_or-eq_default}
use lib.Seq.{get_or-set_same, get_or-set_other, drop-cons}
use borrow.Author.Tests.{eq-eqb, eqb-true, ltb-true, ltb-false}
use Rattle.rules.specs.Numbers.{colour_no, player_of, is_colour, opponent_of}
use Rattle.rules.specs.Refusals.{many_moves, unless, colour_refusal, code_refusal, distance_refusal}
use Rattle.std.specs.Prelude.{Result, Ok, Err}
use Rattle.rules.specs.Answers.{answer, checked}
use Rattle.rules.specs.declared.refusal.Refusal.{Refusal}
use Rattle.rules.specs.Tools.{all_below}
use Rattle.rules.specs.Grid.{is_empty, Change, put_at, remove_at, play, put, remove}
use Rattle.rules.specs.Views.{turn, undo, turn_cells}
use Rattle.rules.specs.declared.Player.{Player}
use Rattle.rules.specs.declared.Player.TheVariants.{Black, White}
use Rattle.rules.proofs.Logic.{T_true, true-T, decide, and_left, and_right, and_intro, all-elim, all-intro, all-cong, all-fails, or_cases}
use Rattle.rules.proofs.Refusals.{first-none, passed, pass}
use Rattle.rules.proofs.Lists.{length-tab, get_d-tab}
use Rattle.lent.specs.Lists.{zeros}
use Rattle.lent.proofs.Laws.{length-zeros, zeros-at}
use Rattle.point.proofs.Refused.{code_in}
use Rattle.cells.specs.Cells.{Cells, cells_refusal, cells_refusal_at, cells_refusal_for, cells_neighbours_refusal}
use Rattle.cells.specs.Cells.{codes_refusal, moves_refusal, puts, moves_cells, stones_cells}

-- ---- refusals: what is known where none is given

pub cells_in : (cells : List ℕ) → cells_refusal cells ≡ 0 → Cells cells
unfolding cells_refusal
cells_in cells e =
    let t = passed (eqb (length cells) 225 && all_below 225 (λ p. leb (get_or cells p 0) 2)) 8 e in
    let small = and_right (eqb (length cells) 225) (all_below 225 (λ p. leb (get_or cells p 0) 2)) t in
    record {
      long = eqb-true (length cells) 225 (T_true (and_left (eqb (length cells) 225) (all_below 225 (λ p. leb (get_or cells p 0) 2)) t));
      small = λ p h. leb→le (get_or cells p 0) 2 (all-elim 225 (λ p. leb (get_or cells p 0) 2) small p h);
    }

pub cells-at-in : (cells : List ℕ) (p : ℕ) → cells_refusal_at cells p ≡ 0 → Cells cells × (p < 225)
unfolding cells_refusal_at
cells-at-in cells p e = let q = first-none (cells_refusal cells) (code_refusal p) e in (cells_in cells q.0, code_in p q.1)

-- moves that are not refused are at most 225, and each names a point
pub moves-in : (moves : List ℕ) → moves_refusal moves ≡ 0 → (length moves ≤ 225) × ((i : ℕ) → i < length moves → get_or moves i 0 < 225)
unfolding moves_refusal codes_refusal
moves-in moves e =
    let q = first-none (unless (leb (length moves) 225) many_moves) (codes_refusal moves) e in (
      leb→le (length moves) 225 (passed (leb (length moves) 225) 13 q.0),
      λ i h. ltb→lt (get_or moves i 0) 225
          (all-elim (length moves) (λ i. ltb (get_or moves i 0) 225) (passed (all_below (length moves) (λ i. ltb (get_or moves i 0) 225)) 7 q.1) i h),
    )

-- the first code that is refused is the list's refusal
pub first_refused : (codes : List ℕ) (i : ℕ) {r : Result Unit Refusal} {x : Refusal} → i < length codes
    → r ≡ checked (code_refusal (get_or codes i 0)) → r ≡ Err x → r ≡ checked (codes_refusal codes)
unfolding codes_refusal code_refusal unless answer
first_refused codes i {r} {x} h e k = go (decide (ltb (get_or codes i 0) 225))
  where
    go : (ltb (get_or codes i 0) 225 ≡ true) ⊎ (ltb (get_or codes i 0) 225 ≡ false) → r ≡ checked (codes_refusal codes)
    go (inl t) = let z : Ok tt ≡ Err x = rw t at (sym e ∙ k) in cc
    go (inr t) = e ∙ rw (t, all-fails (length codes) (λ n. ltb (get_or codes n 0) 225) i h t)

-- what is below 225 is at most 224
pub codes_small : (codes : List ℕ)
    → all_below (length codes) (λ i. ltb (get_or codes i 0) 225) ≡ all_below (length codes) (λ p. leb (get_or codes p 0) 224)
codes_small codes =
    all-cong (length codes) (λ i. ltb (get_or codes i 0) 225) (λ p. leb (get_or codes p 0) 224) (λ i l. leb-suc-suc (get_or codes i 0) 224)

pub cells-for-in : (cells : List ℕ) (p colour : ℕ) → cells_refusal_for cells p colour ≡ 0
    → Cells cells × (p < 225) × (colour_refusal colour ≡ 0)
unfolding cells_refusal_for
cells-for-in cells p colour e =
    let (s, t) = first-none (cells_refusal_at cells p) (colour_refusal colour) e in
    let ok = cells-at-in cells p s in
    (ok.0, ok.1, t)

pub cells-near-in : (cells : List ℕ) (p n : ℕ) → cells_neighbours_refusal cells p n ≡ 0 → (p < 225) × (n < 15)
unfolding cells_neighbours_refusal distance_refusal
cells-near-in cells p n e =
    let (s, t) = first-none (cells_refusal_at cells p) (distance_refusal n) e in
    let h : n ≤ 14 = leb→le n 14 (passed (leb n 14) 11 t) in
    ((cells-at-in cells p s).1, omega arith)

-- a colour's number is that of its stone's cell
pub colour-cell : (colour : ℕ) → colour_refusal colour ≡ 0 → colour ≡ colour_no (player_of colour)
unfolding colour_refusal
colour-cell colour e = go (or_cases (eqb colour 1) (eqb colour 2) (passed (is_colour colour) 11 e))
  where
    go : T (eqb colour 1) ⊎ T (eqb colour 2) → colour ≡ colour_no (player_of colour)
    go (inl t) = rw (eqb-true colour 1 (T_true t))
    go (inr t) = rw (eqb-true colour 2 (T_true t))

-- 225 cells of 0, 1 or 2 are not refused
pub cells-pass : (cells : List ℕ) → Cells cells → cells_refusal cells ≡ 0
unfolding cells_refusal
cells-pass cells ok =
    pass (eqb (length cells) 225 && all_below 225 (λ p. leb (get_or cells p 0) 2)) 9
    (and_intro (eqb (length cells) 225) (all_below 225 (λ p. leb (get_or cells p 0) 2)) (true-T (eq-eqb (length cells) 225 ok.long))
    (all-intro 225 (λ p. leb (get_or cells p 0) 2) (λ p h. le→leb (get_or cells p 0) 2 (ok.small p h))))

-- ---- what cells stay

pub cells-set : (cells : List ℕ) (p v : ℕ) → Cells cells → v ≤ 2 → Cells (set cells p v)
cells-set cells p v ok h = record { long = length-set cells p v ∙ ok.long; small = λ q hq. go q hq (ℕ_discrete q p) }
  where
    go : (q : ℕ) → q < 225 → Dec (q ≡ p) → get_or (set cells p v) q 0 ≤ 2
    go q hq (yes e) = rw (e, get_or-set_same cells p v 0 (omega (arith, e, ok.long))) h
    go q hq (no e) = rw (get_or-set_other cells p q v 0 e) (ok.small q hq)

pub cells-zeros : Cells (zeros 225)
cells-zeros = record { long = length-zeros 225; small = λ p hp. rw (zeros-at 225 p) (omega arith) }

pub colour-small : (r : Player) → colour_no r ≤ 2
colour-small Black = omega arith
colour-small White = omega arith

pub put-ok : (r : Player) (cells : List ℕ) (p : ℕ) → Cells cells → Cells (put r cells p)
put-ok r cells p ok = cells-set cells p (colour_no r) ok (colour-small r)

pub remove-ok : (cells : List ℕ) (p : ℕ) → Cells cells → Cells (remove cells p)
remove-ok cells p ok = cells-set cells p 0 ok (omega arith)

pub play-ok : (changes : List Change) (cells : List ℕ) → Cells cells → Cells (play changes cells)
unfolding play
play-ok [] cells ok = ok
play-ok (put_at r p ∷ changes) cells ok = play-ok changes (put r cells p) (put-ok r cells p ok)
play-ok (remove_at p ∷ changes) cells ok = play-ok changes (remove cells p) (remove-ok cells p ok)

pub moves-ok : (moves : List ℕ) → Cells (moves_cells moves)
unfolding moves_cells
moves-ok moves = play-ok (puts true Black moves) (zeros 225) cells-zeros

pub stones-ok : (blacks whites : List ℕ) → Cells (stones_cells blacks whites)
unfolding stones_cells
stones-ok blacks whites =
    play-ok (puts false White whites) (play (puts false Black blacks) (zeros 225))
    (play-ok (puts false Black blacks) (zeros 225) cells-zeros)

pub turn-ok : (v : ℕ) (cells : List ℕ) → Cells cells → Cells (turn_cells v cells)
unfolding turn_cells
turn-ok v cells ok =
    record {
      long = length-tab 225 (λ q. get_or cells (turn (undo v) q) 0);
      small = λ q h.
          rw (get_d-tab 225 (λ q. get_or cells (turn (undo v) q) 0) q h)
          (small (turn (undo v) q) (decide (ltb (turn (undo v) q) 225)));
    }
  where
    small : (p : ℕ) → (ltb p 225 ≡ true) ⊎ (ltb p 225 ≡ false) → get_or cells p 0 ≤ 2
    small p (inl t) = ok.small p (ltb-true p 225 t)
    small p (inr t) = rw (get_or-eq_default cells 0 {n = p} (omega (arith, ok.long, ltb-false p 225 t))) (omega arith)

pub length-turned : (v : ℕ) (cells : List ℕ) → length (turn_cells v cells) ≡ 225
unfolding turn_cells
length-turned v cells = length-tab 225 (λ q. get_or cells (turn (undo v) q) 0)

-- ---- a cell is empty where it is 0

none-zero : (v : ℕ) → v ≤ 2 → eqb v 0 ≡ is_empty v
none-zero zero h = refl
none-zero (suc zero) h = refl
none-zero (suc (suc zero)) h = refl
none-zero (suc (suc (suc v))) h = absurd (omega arith)

pub empty-value : (cells : List ℕ) → Cells cells → (p : ℕ) → p < 225 → eqb (get_or cells p 0) 0 ≡ is_empty (get_or cells p 0)
empty-value cells ok p hp = none-zero (get_or cells p 0) (ok.small p hp)

-- .. and where its value is no colour's
pub no-colour : (v : ℕ) → not (is_colour v) ≡ is_empty v
no-colour v = no (eqb v 1) (eqb v 2)
  where
    no : (a b : Bool) → not (a || b) ≡ (not a && not b)
    no true b = refl
    no false b = refl

-- ---- stones put one after the other: a turn of the loop that puts them, and its end

pub puts-more : (alternate : Bool) (r : Player) (codes cells : List ℕ) (i : ℕ) → i < length codes
    → play (puts alternate r (drop i codes)) cells
    ≡ play (puts alternate (cond alternate (opponent_of r) r) (drop (i + 1) codes)) (put r cells (get_or codes i 0))
unfolding puts play
puts-more alternate r codes cells i h =
    ap (λ (x : List ℕ). play (puts alternate r x) cells) (drop-cons codes i 0 h)
    ∙ ap (λ (n : ℕ). play (puts alternate (cond alternate (opponent_of r) r) (drop n codes)) (put r cells (get_or codes i 0)))
    (sym (add-one i))

pub puts-end : (alternate : Bool) (r : Player) (codes cells : List ℕ) (i : ℕ) → length codes ≤ i
    → play (puts alternate r (drop i codes)) cells ≡ cells
unfolding puts play
puts-end alternate r codes cells i h = ap (λ (x : List ℕ). play (puts alternate r x) cells) (drop-out codes i h)
  where
    drop-out : (x : List ℕ) (i : ℕ) → length x ≤ i → drop i x ≡ []
    drop-out [] zero h = refl
    drop-out [] (suc i) h = refl
    drop-out (a ∷ x) zero h = absurd (not-suc-le-zero h)
    drop-out (a ∷ x) (suc i) h = drop-out x i (le_of_suc-le-suc h)
