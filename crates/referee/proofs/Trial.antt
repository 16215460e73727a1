-- The trial stone on a board: put at an empty point of a sound one and taken off again, the board is as it was.
--     stone-on, stone-off        with the stone put, and with it taken off, the counts are those of the cells
--     may-ask, may-remove, tried the board with the stone may be asked, and the stone taken off; what the three calls say is what is given
--     may-be-tried, tried-there, not-tried    where the first says yes, a trial may be made, and answers the second; else the answer is no
-- Assumes nothing.
use mathlib.Core.Path.{◌≡◌, refl, ap, sym, subst, ◌∙◌}
use mathlib.Core.Bool.{Bool, true, false}
use mathlib.Core.List.{List}
use Rattle.std.specs.Prelude.{Result, Ok}
use Prim.Native.Nat.{ℕ, ◌+◌, ◌-◌, ◌≤◌, ◌<◌}
use native.Mathlib.Omega.{arith}
use lib.Dec.{eqb}
use lib.ListN.{get_or, set}
use lib.Seq.{set-set, set-get_or}
use borrow.Author.Tests.{eq-eqb, eqb-true}
use Rattle.rules.specs.Answers.{answer}
use Rattle.rules.specs.Bit.{digit}
use Rattle.rules.specs.Grid.{is_empty, remove}
use Rattle.rules.specs.declared.Player.TheVariants.{Black}
use Rattle.rules.specs.Forbidden.{with_black, real_double, is_double_three, strict_of, double_three_at}
use Rattle.rules.specs.declared.refusal.Refusal.{Refusal}
use Rattle.rules.proofs.Changes.{set_at}
use Rattle.rules.proofs.Refusals.{answered}
use Rattle.rules.proofs.Verdicts.{double-real}
use Rattle.cells.specs.Cells.{Cells}
use Rattle.cells.proofs.Given.{put-ok}
use Rattle.cells.proofs.Counts.{stones-le, stones-set}
use Rattle.grid.specs.Lines.{Sound, write_on}
use Rattle.grid.proofs.Lines.{length-cells_of, cells-cells_of, empty-cell}
use Rattle.board.specs.Boards.{board_with, cells, board_of, board_refusal, refusal_at}
use Rattle.board.specs.declared.board.Board.{Board}
use Rattle.board.proofs.Given.{at_none, sound-in, counts-in, board-sound, board-cells, whole-board, counted-board}
use Rattle.referee.specs.Referee.{HoldsAt}

-- ---- the stone put, and counted: Black has one more; and taken off

pub stone-on : (n : ℕ) (h : Board) {zs : List ℕ} → HoldsAt h n 0 → zs ≡ write_on h.lines n 1
    → board_with zs (h.blacks + 1) h.whites ≡ board_of (with_black (cells h) n)
stone-on n h held e = counted-board h n 1 held.sound held.point e (rw held.value (omega arith)) (rw held.value)

-- a black stone is counted, and a count is no more than 225
pub black-counted : (n : ℕ) (h : Board) → HoldsAt h n 1 → 1 ≤ h.blacks
black-counted n h held =
    let k = (counts-in h held.sound).0 in
    let s = stones-set Black (cells h) n 0 (length-cells_of h.lines) held.point in
    let one : digit (eqb (get_or (cells h) n 0) 1) ≡ 1 = rw held.value in
    omega arith

pub blacks-few : (n v : ℕ) (h : Board) → HoldsAt h n v → h.blacks ≤ 225
blacks-few n v h held = let k = (counts-in h held.sound).0 in let s = stones-le Black (cells h) in omega arith

pub stone-off : (n : ℕ) (h : Board) {zs : List ℕ} → HoldsAt h n 1 → zs ≡ write_on h.lines n 0
    → board_with zs (h.blacks - 1) h.whites ≡ board_of (remove (cells h) n)
stone-off n h held e =
    let some = black-counted n h held in
    counted-board h n 0 held.sound held.point e (rw held.value (omega arith)) (rw held.value)

module _ (h : Board) (n : ℕ) (held : HoldsAt h n 0) where
  abbrev tried-cells : List ℕ
  tried-cells = with_black (cells h) n

  tried-ok : Cells tried-cells
  tried-ok = put-ok Black (cells h) n (cells-cells_of h.lines)

  pub may-ask : (k : Board) → k ≡ board_of tried-cells → Sound k.lines × (n < 225)
  may-ask k e = (sound-in k (ap board_refusal e ∙ board-sound tried-cells tried-ok), held.point)

  pub may-remove : (k m : Board) → k ≡ board_of tried-cells → m ≡ k → HoldsAt m n 1
  may-remove k m e e' =
      record {
        sound = ap board_refusal (e' ∙ e) ∙ board-sound tried-cells tried-ok;
        point = held.point;
        value =
            ap (λ (b : Board). get_or (cells b) n 0) (e' ∙ e) ∙ ap (λ (c : List ℕ). get_or c n 0) (board-cells tried-cells tried-ok)
            ∙ set_at (cells h) n 1 n (let l = length-cells_of h.lines in let p = held.point in omega arith) ∙ rw (eq-eqb n n refl);
      }

  pub tried : (h₁ h₂ h₃ : Board) (r : Bool) → h₁ ≡ board_of tried-cells → (r ≡ real_double strict_of (cells h₁) n) × (h₂ ≡ h₁)
      → h₃ ≡ board_of (remove (cells h₂) n) → (r ≡ real_double strict_of tried-cells n) × (h₃ ≡ h)
  tried h₁ h₂ h₃ r e₁ e₂ e₃ =
      let there : cells h₁ ≡ tried-cells = ap cells e₁ ∙ board-cells tried-cells tried-ok in (
        e₂.0 ∙ ap (λ (l : List ℕ). real_double strict_of l n) there,
        e₃
            ∙ ap (λ (l : List ℕ). board_of (remove l n)) (ap cells e₂.1 ∙ there)
            ∙ ap board_of (set-set (cells h) n 1 0 ∙ ap (set (cells h) n) (sym held.value) ∙ set-get_or (cells h) n 0)
            ∙ sym (whole-board h held.sound),
      )

-- ---- where it may be made

module _ (h h₁ : Board) (n : ℕ) {a : Result Bool Refusal} {may : Bool}
    (asked : (a ≡ answer (refusal_at h n) (is_empty (get_or (cells h) n 0))) × (h₁ ≡ h)) (was : a ≡ Ok may) where
  said : (refusal_at h n ≡ 0) × (may ≡ is_empty (get_or (cells h) n 0))
  said = answered (refusal_at h n) (is_empty (get_or (cells h) n 0)) asked.0 was

  free-at : may ≡ true → HoldsAt h n 0
  free-at y =
      let (sound, hp) = at_none h n said.0 in
      record { sound = sound; point = hp; value = eqb-true (get_or (cells h) n 0) 0 (empty-cell h.lines n hp ∙ sym said.1 ∙ y) }

  pub may-be-tried : may ≡ true → HoldsAt h₁ n 0
  may-be-tried y = subst (λ (k : Board). HoldsAt k n 0) (sym asked.1) (free-at y)

  pub tried-there : may ≡ true → {r : Bool} {h₂ : Board} → (r ≡ real_double strict_of (with_black (cells h₁) n) n) × (h₂ ≡ h₁)
      → (Ok r ≡ answer (refusal_at h n) (double_three_at (cells h) n)) × (h₂ ≡ h)
  unfolding answer double_three_at
  tried-there y {r} e =
      let held = free-at y in
      let told : r ≡ is_double_three strict_of (cells h) n =
      e.0 ∙ ap (λ (k : Board). real_double strict_of (with_black (cells k) n) n) asked.1
      ∙ sym (double-real (cells h) n (length-cells_of h.lines) held.point held.value) in
      (rw (said.0, sym said.1 ∙ y) (ap (λ (b : Bool). Ok b) told), e.1 ∙ asked.1)

  pub not-tried : may ≡ false → (Ok false ≡ answer (refusal_at h n) (double_three_at (cells h) n)) × (h₁ ≡ h)
  unfolding answer double_three_at
  not-tried z = (rw (said.0, sym said.1 ∙ z) refl, asked.1)
