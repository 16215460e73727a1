-- One move by the tests that the code makes, and the loop that reads a game: a turn of it, and its ends. Assumes nothing.
use mathlib.Core.Path.{◌≡◌, refl, sym, ap, subst, ◌∙◌}
use mathlib.Core.Bool.{Bool, true, false, not, ◌&&◌, cond}
use mathlib.Core.Logic.{◌⊎◌, inl, inr}
use mathlib.Core.List.{List, ◌∷◌}
use Prim.Native.Nat.{ℕ, suc, ◌+◌, ◌≤◌, ◌<◌}
use native.Mathlib.Numerals.{add-one}
use lib.Dec.{eqb, ltb}
use lib.ListN.{length, get_or, drop, drop_of_length-le}
use lib.Seq.{drop-cons}
use borrow.Author.Tests.{eqb-true, lt-ltb}
use Rattle.rules.specs.Numbers.{colour_no, is_black, is_none, opponent_of}
use Rattle.rules.specs.Refusals.{code_refusal}
use Rattle.rules.specs.Answers.{answer}
use Rattle.rules.specs.Grid.{is_empty, put, rows_through}
use Rattle.rules.specs.Forbidden.{some_row, is_overline, is_double_four, may_forbid, strict_of}
use Rattle.rules.specs.Fives.{makes_five}
use Rattle.rules.specs.declared.Player.{Player}
use Rattle.rules.specs.declared.Player.TheVariants.{Black, White}
use Rattle.rules.specs.declared.Verdict.{Verdict}
use Rattle.rules.specs.declared.refusal.Refusal.{Refusal}
use Rattle.std.specs.Prelude.{Option, Some, None, Result, Ok, Err}
use Rattle.std.specs.Bool.{then_some}
use Rattle.std.specs.Option.{is_some}
use Rattle.rules.specs.declared.RowKind.{RowKind}
use Rattle.rules.specs.declared.RowKind.TheVariants.{Two, Sword, Four, Overlining}
use Rattle.rules.proofs.Logic.{no_true, true-T, decide}
use Rattle.rules.proofs.Refusals.{none_first, pass}
use Rattle.rules.proofs.Verdicts.{quiet_none}
use Rattle.rules.proofs.More.{some_row-same, more_same}
use Rattle.rules.proofs.Starts.{some-masks, start-low}
use Rattle.rules.proofs.Fives.{five-told}
use Rattle.point.specs.Places.{addresses}
use Rattle.near.specs.Rows.{seen, may_apply}
use Rattle.cells.specs.Cells.{Cells, cells_refusal, cells_refusal_at}
use Rattle.cells.proofs.Given.{colour-small, cells-pass}
use Rattle.grid.specs.Lines.{cells_of, lines_of, Sound, add_on, masks_by}
use Rattle.grid.proofs.Lines.{cells-cells_of, empty-cell, cells-write, sound-write, sound-lines}
use Rattle.grid.proofs.Marked.{add-write}
use Rattle.grid.proofs.Placed.{masks-by}
use Rattle.referee.specs.Referee.{MasksOf}
use Rattle.referee.proofs.RowsSeen.{seen-rows, masks-sound}
use Rattle.board.specs.Boards.{board_from}
use Rattle.board.proofs.Given.{from-lines}
use Rattle.game.specs.Game.{is_fault, is_forbidden, lowest, reason_of, won_after, Report, no_fault, fault_at, report_from, report_of}
use Rattle.game.specs.Answers.{fault_of, report_with, reported}
use Rattle.game.specs.declared.report.Reason.{Reason}

-- ---- the reason, by the three tests

pub reason-told : (r : Player) (won : Option Player) (cells : List ℕ) (p v : ℕ) {forbidden after : Bool}
    → is_empty (get_or cells p 0) ≡ eqb v 0 → forbidden ≡ is_forbidden r cells p → after ≡ is_some won
    → lowest (not (eqb v 0)) forbidden after ≡ reason_of r won cells p
unfolding reason_of
reason-told r won cells p v ev ef ea = rw (ev, ef, ea)

-- a move without a fault goes to an empty point
pub faultless-empty : (r : Player) (won : Option Player) (cells : List ℕ) (p : ℕ) → is_fault (reason_of r won cells p) ≡ false
    → is_empty (get_or cells p 0) ≡ true
unfolding reason_of
faultless-empty r won cells p e = go (is_empty (get_or cells p 0)) e
  where
    go : (b : Bool) → is_fault (lowest (not b) (is_forbidden r cells p) (is_some won)) ≡ false → b ≡ true
    go true q = refl
    go false q = absurd (no_true (sym q))

-- ---- a glance at the rows through a point, by the masks of its lines

module _ (r : Player) (cells own other : List ℕ) (p : ℕ) (hp : p < 225) (eo : MasksOf r cells p own)
    (et : MasksOf (opponent_of r) cells p other) where
  same : (kind : RowKind) (d j : ℕ) → d < 4 → j < 16 → seen (is_black r) own other p kind d j ≡ rows_through r kind cells p d j
  same kind d j hd hj = seen-rows r cells own other p hp eo et kind d j hd

  pub four-seen : {b : Bool} → b ≡ some_row (seen (is_black r) own other p Four) → b ≡ some_row (rows_through r Four cells p)
  four-seen e = e ∙ some_row-same (seen (is_black r) own other p Four) (rows_through r Four cells p) (same Four)

  pub may-seen : r ≡ Black → {b : Bool} → b ≡ may_apply (seen (is_black r) own other p) → b ≡ may_forbid cells p
  unfolding may_apply may_forbid is_overline is_double_four
  may-seen er e =
      e ∙ rw (
        some_row-same (seen (is_black r) own other p Overlining) (rows_through r Overlining cells p) (same Overlining),
        more_same (seen (is_black r) own other p Sword) (rows_through r Sword cells p) (same Sword),
        more_same (seen (is_black r) own other p Two) (rows_through r Two cells p) (same Two),
        er,
      )

-- the masks that were read of sound lines
pub masks-read : (r : Player) (l : List ℕ) (p : ℕ) {table m : List ℕ} → Sound l → p < 225 → table ≡ addresses
    → m ≡ masks_by l table p r → MasksOf r (cells_of l) p m
masks-read r l p {table} s hp et e = subst (MasksOf r (cells_of l) p) (sym (e ∙ masks-by l table p r et)) (masks-sound r l p s hp)

-- the five by the Fours, at an empty point
pub five-seen : (r : Player) (cells : List ℕ) (p : ℕ) → length cells ≡ 225 → p < 225 → get_or cells p 0 ≡ 0
    → {b : Bool} → b ≡ some_row (rows_through r Four cells p) → b ≡ makes_five r cells p
five-seen r cells p long hp none e =
    five-told r cells p long hp none refl (e ∙ sym (some-masks (rows_through r Four cells p) (start-low r Four cells p) refl refl))

-- forbidden to Black where the verdict is a kind; it is none where no kind may apply
pub forbidden-told : (r : Player) (cells : List ℕ) (p : ℕ) → length cells ≡ 225 → p < 225 → {may b : Bool}
    → may ≡ (is_black r && may_forbid cells p) → b ≡ (may && not (is_none (strict_of cells p))) → b ≡ is_forbidden r cells p
unfolding is_forbidden
forbidden-told r cells p long hp em e =
    e ∙ ap (λ (m : Bool). m && not (is_none (strict_of cells p))) em ∙ go r (decide (may_forbid cells p))
  where
    go : (r : Player) → (may_forbid cells p ≡ true) ⊎ (may_forbid cells p ≡ false)
        → ((is_black r && may_forbid cells p) && not (is_none (strict_of cells p))) ≡ (is_black r && not (is_none (strict_of cells p)))
    go White m = refl
    go Black (inl t) = rw t
    go Black (inr t) = rw (t, sym (quiet_none cells p long hp t))

-- the question on the cells of lines is not refused
at-pass : (cells : List ℕ) (p : ℕ) → Cells cells → p < 225 → cells_refusal_at cells p ≡ 0
unfolding cells_refusal_at code_refusal
at-pass cells p ok hp =
    none_first (cells_refusal cells) (code_refusal p) (cells-pass cells ok) (pass (ltb p 225) 8 (true-T (lt-ltb p 225 hp)))

pub asked-lines : (l : List ℕ) (p : ℕ) → p < 225 → {cells : List ℕ} {a : Result Verdict Refusal} → cells ≡ cells_of l
    → a ≡ answer (cells_refusal_at cells p) (strict_of cells p) → a ≡ Ok (strict_of (cells_of l) p)
unfolding answer
asked-lines l p hp ec ea = ea ∙ rw (ec, at-pass (cells_of l) p (cells-cells_of l) hp)

-- so its answer is a verdict, and that one
pub kind-told : {a : Result Verdict Refusal} {v w : Verdict} {b : Bool} → a ≡ Ok w → a ≡ Ok v → b ≡ is_none v
    → not b ≡ not (is_none w)
kind-told {a} {v} {w} asked told e = let same : v ≡ w = cc in ap not e ∙ ap (λ (x : Verdict). not (is_none x)) same

pub never-refused : {a : Result Verdict Refusal} {w : Verdict} {e : Refusal} → a ≡ Ok w → a ≡ Err e → ⊥
never-refused asked told = cc

-- ---- a turn of the reading

module _ (n : ℕ) (r : Player) (won : Option Player) (cells : List ℕ) where
  -- on a list that begins with p
  pub from-fault : (p : ℕ) (moves : List ℕ) → is_fault (reason_of r won cells p) ≡ true
      → report_from n r won cells (p ∷ moves) ≡ fault_at n (reason_of r won cells p) cells
  unfolding report_from
  from-fault p moves e = rw e

  pub from-good : (p : ℕ) (moves : List ℕ) → is_fault (reason_of r won cells p) ≡ false
      → report_from n r won cells (p ∷ moves)
      ≡ report_from (suc n) (opponent_of r) (won_after (makes_five r cells p) r) (put r cells p) moves
  unfolding report_from
  from-good p moves e = rw e

  module _ (moves : List ℕ) (i : ℕ) where
    -- .. and on what is left from place i on
    pub read-fault : i < length moves → is_fault (reason_of r won cells (get_or moves i 0)) ≡ true
        → report_from n r won cells (drop i moves) ≡ fault_at n (reason_of r won cells (get_or moves i 0)) cells
    read-fault h e =
        ap (report_from n r won cells) (drop-cons moves i 0 h) ∙ from-fault (get_or moves i 0) (drop (suc i) moves) e

    pub read_more : i < length moves → is_fault (reason_of r won cells (get_or moves i 0)) ≡ false
        → report_from n r won cells (drop i moves)
        ≡ report_from (suc n) (opponent_of r) (won_after (makes_five r cells (get_or moves i 0)) r) (put r cells (get_or moves i 0))
        (drop (i + 1) moves)
    read_more h e =
        ap (report_from n r won cells) (drop-cons moves i 0 h) ∙ from-good (get_or moves i 0) (drop (suc i) moves) e
        ∙ ap (λ (k : ℕ). report_from (suc n) (opponent_of r) (won_after (makes_five r cells (get_or moves i 0)) r) (put r cells (get_or moves i 0))
        (drop k moves)) (sym (add-one i))

    pub read-end : length moves ≤ i → report_from n r won cells (drop i moves) ≡ no_fault won cells
    unfolding report_from
    read-end h = ap (report_from n r won cells) (drop_of_length-le moves h)

-- ---- the stone of a move without a fault, added to sound lines

module _ (r : Player) (won : Option Player) (l : List ℕ) (p : ℕ) (s : Sound l) (hp : p < 225)
    (good : is_fault (reason_of r won (cells_of l) p) ≡ false) where
  pub point-free : get_or (cells_of l) p 0 ≡ 0
  point-free = eqb-true (get_or (cells_of l) p 0) 0 (empty-cell l p hp ∙ faultless-empty r won (cells_of l) p good)

  pub stone-sound : {m : List ℕ} → m ≡ add_on l p r → Sound m
  stone-sound e = rw (e ∙ add-write l p r s hp point-free) (sound-write l p (colour_no r) s (colour-small r))

  pub stone-cells : {m : List ℕ} → m ≡ add_on l p r → cells_of m ≡ put r (cells_of l) p
  stone-cells e = ap cells_of (e ∙ add-write l p r s hp point-free) ∙ cells-write l p (colour_no r) s (colour-small r)

-- who has won after it
pub won-told : (five : Bool) (r : Player) → then_some five r ≡ won_after five r
unfolding won_after
won-told true r = refl
won-told false r = refl

-- the lines after a move: as they were where it is faulty, else with the stone
pub lines-kept : (l n : List ℕ) {fault : Bool} {m : List ℕ} → fault ≡ true → m ≡ cond fault l n → m ≡ l
lines-kept l n e em = em ∙ rw e

pub lines-moved : (l n : List ℕ) {fault : Bool} {m : List ℕ} → fault ≡ false → m ≡ cond fault l n → m ≡ n
lines-moved l n e em = em ∙ rw e

-- ---- the loop: what is left to read from the present lines gives the whole

module _ (moves l : List ℕ) (i : ℕ) (r : Player) (won : Option Player) (s : Sound l)
    (whole : report_from (suc i) r won (cells_of l) (drop i moves) ≡ report_of moves) where
  -- the board of the report is that of the lines
  answered : (x : Report) → x.cells ≡ cells_of l → report_of moves ≡ x
      → report_with (fault_of x.number x.reason) x.winner (board_from l) ≡ reported (report_of moves)
  unfolding reported
  answered x ec e =
      ap (report_with (fault_of x.number x.reason) x.winner) (from-lines x.cells (sound-lines l s ∙ ap lines_of (sym ec)))
      ∙ ap reported (sym e)

  pub report-fault : {why : Reason} → i < length moves → Some why ≡ reason_of r won (cells_of l) (get_or moves i 0)
      → report_with (fault_of (i + 1) (Some why)) None (board_from l) ≡ reported (report_of moves)
  report-fault {why} h ey =
      ap (λ (n : ℕ). report_with (fault_of n (Some why)) None (board_from l)) (add-one i)
      ∙ answered (fault_at (suc i) (Some why) (cells_of l)) refl
      (sym whole ∙ read-fault (suc i) r won (cells_of l) moves i h (ap is_fault (sym ey))
      ∙ ap (λ (w : Option Reason). fault_at (suc i) w (cells_of l)) (sym ey))

  pub report-end : length moves ≤ i → report_with None won (board_from l) ≡ reported (report_of moves)
  report-end h = answered (no_fault won (cells_of l)) refl (sym whole ∙ read-end (suc i) r won (cells_of l) moves i h)

  pub report-more : {m : List ℕ} {r' : Player} {won' : Option Player} {five : Bool} → i < length moves → get_or moves i 0 < 225
      → is_fault (reason_of r won (cells_of l) (get_or moves i 0)) ≡ false → m ≡ add_on l (get_or moves i 0) r
      → five ≡ makes_five r (cells_of l) (get_or moves i 0) → won' ≡ won_after five r → r' ≡ opponent_of r
      → report_from (suc (i + 1)) r' won' (cells_of m) (drop (i + 1) moves) ≡ report_of moves
  report-more h hp good em e5 ew er =
      rw (er, ew, e5, stone-cells r won l (get_or moves i 0) s hp good em)
      (ap (λ (n : ℕ). report_from (suc n) (opponent_of r) (won_after (makes_five r (cells_of l) (get_or moves i 0)) r)
      (put r (cells_of l) (get_or moves i 0)) (drop (i + 1) moves)) (add-one i)
      ∙ sym (read_more (suc i) r won (cells_of l) moves i h good) ∙ whole)
