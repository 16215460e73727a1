-- What is given back where nothing is refused: the board of the right cells, the right starts. Assumes nothing.
use mathlib.Core.Path.{◌≡◌, refl, ap, ap₂, sym, ◌∙◌}
use mathlib.Core.Bool.{Bool, true, false, ◌&&◌, ◌||◌, cond}
use mathlib.Core.Logic.{◌⊎◌, inl, inr}
use mathlib.Core.List.{List}
use Rattle.std.specs.Prelude.{Result, Ok, Err}
use Rattle.std.specs.Result.{result_ok}
use Prim.Native.Nat.{ℕ, ◌+◌, ◌<◌}
use native.Mathlib.Omega.{arith}
use lib.Dec.{eqb, ltb, eqb→eq}
use lib.ListN.{get_or, set}
use borrow.Author.Tests.{eq-eqb, eqb-true, lt-ltb}
use Rattle.rules.specs.Numbers.{colour_no, player_of}
use Rattle.rules.specs.Answers.{answer, refusal_named, stone_there}
use Rattle.rules.specs.Refusals.{no_number, unsound, unless, first, colour_refusal, kind_refusal, code_refusal}
use Rattle.rules.specs.Bit.{digit}
use Rattle.rules.specs.declared.refusal.Refusal.{Refusal}
use Rattle.rules.specs.declared.Player.{Player}
use Rattle.rules.specs.declared.Player.TheVariants.{Black, White}
use Rattle.rules.proofs.Logic.{true-T, decide, and_left, and_right, and_intro}
use Rattle.rules.proofs.Refusals.{first-none, none_first, passed, pass, answered, answered_err}
use Rattle.point.proofs.Refused.{code_in}
use Rattle.cells.specs.Cells.{Cells, cells_refusal}
use Rattle.cells.specs.Counts.{stones_count}
use Rattle.cells.proofs.Given.{cells-pass}
use Rattle.cells.proofs.Counts.{stones-le, stones-set}
use Rattle.grid.specs.Lines.{cell_of, cells_of, lines_of, Sound, is_sound, lines_refusal, write_on}
use Rattle.grid.proofs.Lines.{length-cells_of, cell-on, cells-lines_of, sound-lines, sound-lines_of, write-sound-lines}
use Rattle.grid.proofs.Same.{test-sound, sound-test}
use Rattle.grid.proofs.Agreed.{sound-agreed, agreed-sound}
use Rattle.board.specs.Boards.{board_with, cells, board_of, stones_shown, board_from, moved_count, changed_board, counts_refusal, board_refusal}
use Rattle.board.specs.Boards.{RefusedUnlessAgreed, refusal_at, refusal_for, rows_on_refusal}
use Rattle.board.specs.Answers.{board_answer, read_answer}
use Rattle.board.specs.declared.board.Board.{Board}
use Rattle.board.proofs.Counted.{shown-cells, stones-shown, moved-count}

-- ---- refusals: what is known where none is given

pub sound-in : (b : Board) → board_refusal b ≡ 0 → Sound b.lines
unfolding board_refusal lines_refusal
sound-in b e = test-sound b.lines (passed (is_sound b.lines) 8 (first-none (lines_refusal b.lines) (counts_refusal b) e).0)

pub counts-in : (b : Board) → board_refusal b ≡ 0 → (b.blacks ≡ stones_count Black (cells b)) × (b.whites ≡ stones_count White (cells b))
unfolding board_refusal counts_refusal
counts-in b e =
    let n = eqb b.blacks (stones_count Black (cells b)) in
    let m = eqb b.whites (stones_count White (cells b)) in
    let t = passed (n && m) 8 (first-none (lines_refusal b.lines) (counts_refusal b) e).1 in
    (eqb→eq b.blacks (stones_count Black (cells b)) (and_left n m t), eqb→eq b.whites (stones_count White (cells b)) (and_right n m t))

pub sound-pass : (b : Board) → Sound b.lines → b.blacks ≡ stones_count Black (cells b) → b.whites ≡ stones_count White (cells b)
    → board_refusal b ≡ 0
unfolding board_refusal lines_refusal counts_refusal
sound-pass b s eb ew =
    let n = eqb b.blacks (stones_count Black (cells b)) in
    let m = eqb b.whites (stones_count White (cells b)) in
    none_first (lines_refusal b.lines) (counts_refusal b) (pass (is_sound b.lines) 9 (sound-test b.lines s))
    (pass (n && m) 9 (and_intro n m (true-T (eq-eqb b.blacks (stones_count Black (cells b)) eb))
    (true-T (eq-eqb b.whites (stones_count White (cells b)) ew))))

-- a board is not refused exactly when it is sound in section 1's words, and its counts are those of its points
pub refused-unless-agreed : (b : Board) → RefusedUnlessAgreed b
refused-unless-agreed b =
    record {
      agreed = λ e. record {
        lines = sound-agreed b.lines (sound-in b e);
        blacks = (counts-in b e).0;
        whites = (counts-in b e).1;
      };
      unrefused = λ a. sound-pass b (agreed-sound b.lines a.lines) a.blacks a.whites;
    }

-- the same test by what the lines show
pub refusal-shown : (l : List ℕ) (blacks whites : ℕ)
    → first (lines_refusal l) (unless (eqb blacks (stones_shown Black l) && eqb whites (stones_shown White l)) unsound)
    ≡ board_refusal (board_with l blacks whites)
unfolding board_refusal counts_refusal first unless lines_refusal
refusal-shown l blacks whites = go (is_sound l) refl
  where
    go : (t : Bool) → is_sound l ≡ t
        → cond (eqb (unless t unsound) 0) (unless (eqb blacks (stones_shown Black l) && eqb whites (stones_shown White l)) unsound)
        (unless t unsound)
        ≡ cond (eqb (unless t unsound) 0)
        (unless (eqb blacks (stones_count Black (cells_of l)) && eqb whites (stones_count White (cells_of l))) unsound) (unless t unsound)
    go true e = rw (stones-shown Black l (test-sound l (true-T e)), stones-shown White l (test-sound l (true-T e)))
    go false e = refl

pub at_none : (b : Board) (p : ℕ) → refusal_at b p ≡ 0 → (board_refusal b ≡ 0) × (p < 225)
unfolding refusal_at
at_none b p e = let q = first-none (board_refusal b) (code_refusal p) e in (q.0, code_in p q.1)

pub at_in : (b : Board) (p : ℕ) → refusal_at b p ≡ 0 → Sound b.lines × (p < 225)
at_in b p e = let q = at_none b p e in (sound-in b q.0, q.1)

-- a point of a sound board is not refused
pub at-point : (b : Board) (p : ℕ) → board_refusal b ≡ 0 → p < 225 → refusal_at b p ≡ 0
unfolding refusal_at code_refusal
at-point b p e hp = none_first (board_refusal b) (code_refusal p) e (pass (ltb p 225) 8 (true-T (lt-ltb p 225 hp)))

pub for-none : (b : Board) (p colour : ℕ) → refusal_for b p colour ≡ 0 → (board_refusal b ≡ 0) × (p < 225)
unfolding refusal_for
for-none b p colour e = at_none b p (first-none (refusal_at b p) (colour_refusal colour) e).0

for-in : (b : Board) (p colour : ℕ) → refusal_for b p colour ≡ 0 → Sound b.lines × (p < 225)
for-in b p colour e = let q = for-none b p colour e in (sound-in b q.0, q.1)

pub rows-on-in : (b : Board) (p colour kind : ℕ) → rows_on_refusal b p colour kind ≡ 0 → Sound b.lines × (p < 225)
unfolding rows_on_refusal
rows-on-in b p colour kind e = for-in b p colour (first-none (refusal_for b p colour) (kind_refusal kind) e).0

-- ---- a board of 225 cells of 0, 1 or 2 is sound and has these cells; so every board that is given back is sound

pub board-sound : (c : List ℕ) → Cells c → board_refusal (board_of c) ≡ 0
unfolding board_of
board-sound c ok =
    sound-pass (board_of c) (sound-lines_of c ok) (ap (stones_count Black) (sym (cells-lines_of c ok)))
    (ap (stones_count White) (sym (cells-lines_of c ok)))

pub board-cells : (c : List ℕ) → Cells c → cells (board_of c) ≡ c
unfolding board_of
board-cells c ok = cells-lines_of c ok

-- ---- the boards that are given back

-- a board by its lines, where these are the lines of the cells
pub from-lines : {l : List ℕ} (c : List ℕ) → l ≡ lines_of c → board_from l ≡ board_of c
unfolding board_of
from-lines c e = ap board_from e ∙ ap₂ (board_with (lines_of c)) (shown-cells Black c) (shown-cells White c)

-- a sound board is the board of its cells
pub whole-board : (b : Board) → board_refusal b ≡ 0 → b ≡ board_of (cells b)
unfolding board_of
whole-board b e =
    ap (λ (l : List ℕ). board_with l b.blacks b.whites) (sound-lines b.lines (sound-in b e))
    ∙ ap₂ (board_with (lines_of (cells b))) (counts-in b e).0 (counts-in b e).1

-- a sound board with one point changed on its lines, and counts that differ by what stood there and what stands there now
pub counted-board : (b : Board) (p v : ℕ) {l : List ℕ} {n m : ℕ} → board_refusal b ≡ 0 → p < 225 → l ≡ write_on b.lines p v
    → n + digit (eqb (get_or (cells b) p 0) 1) ≡ b.blacks + digit (eqb v 1) → m + digit (eqb (get_or (cells b) p 0) 2) ≡ b.whites + digit (eqb v 2)
    → board_with l n m ≡ board_of (set (cells b) p v)
unfolding board_of
counted-board b p v {l} {n} {m} none hp el en em =
    ap (λ (x : List ℕ). board_with x n m) (el ∙ write-sound-lines b.lines p v (sound-in b none))
    ∙ ap₂ (board_with (lines_of (set (cells b) p v)))
    (let k = (counts-in b none).0 in let s = stones-set Black (cells b) p v (length-cells_of b.lines) hp in omega arith)
    (let k = (counts-in b none).1 in let s = stones-set White (cells b) p v (length-cells_of b.lines) hp in omega arith)

-- .. moved by it
pub changed-board : (b : Board) (p v : ℕ) {l : List ℕ} {before after : ℕ} → board_refusal b ≡ 0 → p < 225
    → l ≡ write_on b.lines p v → before ≡ cell_of b.lines p → after ≡ v → changed_board b l before after ≡ board_of (set (cells b) p v)
unfolding board_of
changed-board b p v none hp el eb ea =
    rw (ea, eb ∙ cell-on b.lines p hp, el ∙ write-sound-lines b.lines p v (sound-in b none))
    (ap₂ (board_with (lines_of (set (cells b) p v))) (moves Black b.blacks (counts-in b none).0) (moves White b.whites (counts-in b none).1))
  where
    moves : (r : Player) (n : ℕ) → n ≡ stones_count r (cells b)
        → moved_count n (eqb (get_or (cells b) p 0) (colour_no r)) (eqb v (colour_no r)) ≡ stones_count r (set (cells b) p v)
    moves r n e =
        let le = stones-le r (cells b) in
        moved-count n (stones_count r (set (cells b) p v)) (eqb (get_or (cells b) p 0) (colour_no r)) (eqb v (colour_no r))
        (stones-set r (cells b) p v (length-cells_of b.lines) hp ∙ ap (λ (x : ℕ). x + digit (eqb v (colour_no r))) (sym e)) (omega arith)

-- what an answer with a board says: nothing is refused, and the board has these cells and refuses nothing more
module _ (refused : ℕ) (c : List ℕ) {answer : Result Board Refusal} {b : Board} (e : answer ≡ board_answer refused c) (given : answer ≡ Ok b) where
  pub made-refusal : refused ≡ 0
  unfolding board_answer
  made-refusal = (answered refused (board_of c) e given).0

  pub made-board : b ≡ board_of c
  unfolding board_answer
  made-board = (answered refused (board_of c) e given).1

  module _ (ok : refused ≡ 0 → Cells c) where
    pub made-sound : board_refusal b ≡ 0
    made-sound = ap board_refusal made-board ∙ board-sound c (ok made-refusal)

    pub made_cells : cells b ≡ c
    made_cells = ap cells made-board ∙ board-cells c (ok made-refusal)

-- .. and what an answer without one says: something is refused, and that is told
pub made-refused : (refused : ℕ) (c : List ℕ) {answer : Result Board Refusal} {x : Refusal} → answer ≡ board_answer refused c → answer ≡ Err x
    → (refused ≡ 0 → ⊥) × (x ≡ refusal_named refused)
unfolding board_answer
made-refused refused c e err = answered_err refused (board_of c) e err

-- ---- where nothing is refused the value is given

pub board_given : (c : List ℕ) {refused : ℕ} {b : Board} → refused ≡ 0 → b ≡ board_of c → Ok b ≡ board_answer refused c
unfolding board_answer answer
board_given c z e = rw (z, e)

-- cells that were read and are 225 of 0, 1 or 2 are refused by the reading alone
pub read-given : (refused : ℕ) (c : List ℕ) {read : Result (List ℕ) Refusal} → read ≡ answer refused c → Cells c
    → read_answer read ≡ board_answer refused c
unfolding read_answer board_answer answer
read-given refused c e ok = rw e (go (decide (eqb refused 0)))
  where
    go : (eqb refused 0 ≡ true) ⊎ (eqb refused 0 ≡ false)
        → read_answer (cond (eqb refused 0) (Ok c) (Err (refusal_named refused)))
        ≡ cond (eqb refused 0) (Ok (board_of c)) (Err (refusal_named refused))
    go (inl t) = rw (t, cells-pass c ok)
    go (inr t) = rw t

-- the stone that a cell's number says
pub stone_given : (n : ℕ) → result_ok (answer (colour_refusal n) (player_of n)) ≡ stone_there (eqb n 1) (eqb n 2)
unfolding answer colour_refusal unless
stone_given n = go (eqb n 1) (eqb n 2)
  where
    go : (a b : Bool)
        → result_ok (cond (eqb (cond (a || b) 0 no_number) 0) (Ok (cond a Black White)) (Err (refusal_named (cond (a || b) 0 no_number))))
        ≡ stone_there a b
    go true b = refl
    go false true = refl
    go false false = refl
