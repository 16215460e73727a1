-- The fronts: what is refused, and what the lines of cells show. Assumes nothing.
use mathlib.Core.Path.{◌≡◌, refl, ap, sym, ◌∙◌}
use mathlib.Core.Logic.{◌⊎◌, inl, inr}
use mathlib.Core.Bool.{Bool, true, false, ◌&&◌, cond}
use mathlib.Core.List.{List, [], ◌++◌}
use Prim.Native.Nat.{ℕ, ◌+◌, ◌≤◌}
use native.Mathlib.Omega.{arith}
use lib.Dec.{eqb, leb}
use lib.ListN.{length, take, drop}
use lib.Seq.{sets, take-append_seam}
use Rattle.std.proofs.lemmas.List.Edits.{sets-eq}
use borrow.Author.Tests.{leb-true}
use Rattle.std.specs.Prelude.{Result, Ok, Err}
use Rattle.rules.specs.Refusals.{no_room, unless, first, colour_refusal}
use Rattle.rules.specs.Answers.{answer, checked}
use Rattle.rules.specs.declared.refusal.Refusal.{Refusal}
use Rattle.rules.proofs.Logic.{decide}
use Rattle.rules.proofs.Refusals.{first-none}
use Rattle.lent.specs.Lists.{kept}
use Rattle.lent.proofs.Laws.{kept_lem}
use Rattle.cells.specs.Cells.{Cells, cells_refusal, codes_refusal}
use Rattle.cells.proofs.Given.{cells_in}
use Rattle.grid.specs.Lines.{cells_of, lines_of, Sound}
use Rattle.grid.proofs.Lines.{cells-lines_of, sound-lines_of}
use Rattle.hint.specs.Refused.{limit_refusal, check_refusal, plan_refusal}

pub check-cells : (cells : List ℕ) (colour : ℕ) (list : List ℕ) → check_refusal cells colour list ≡ 0 → Cells cells
unfolding check_refusal
check-cells cells colour list e =
    cells_in cells (first-none (cells_refusal cells) (codes_refusal list)
    (first-none (first (cells_refusal cells) (codes_refusal list)) (colour_refusal colour) e).0).0

module _ (cells : List ℕ) (colour limit : ℕ) (out : List ℕ) (e : plan_refusal cells colour limit out ≡ 0) where
  asked : first (first (cells_refusal cells) (colour_refusal colour)) (limit_refusal limit) ≡ 0
  unfolding plan_refusal
  asked = (first-none (first (first (cells_refusal cells) (colour_refusal colour)) (limit_refusal limit)) (unless (leb 11 (length out)) no_room) e).0

  pub plan-cells : Cells cells
  plan-cells =
      cells_in cells (first-none (cells_refusal cells) (colour_refusal colour)
      (first-none (first (cells_refusal cells) (colour_refusal colour)) (limit_refusal limit) asked).0).0

  pub plan-limit : limit ≤ 6
  unfolding limit_refusal unless
  plan-limit = go (leb 1 limit) (decide (leb limit 6)) (first-none (first (cells_refusal cells) (colour_refusal colour)) (limit_refusal limit) asked).1
    where
      go : (a : Bool) → (leb limit 6 ≡ true) ⊎ (leb limit 6 ≡ false) → ◌≡◌ {A = ℕ} (cond (a && leb limit 6) 0 21) 0 → limit ≤ 6
      go a (inl t) q = leb-true limit 6 t
      go true (inr t) q = absurd (let z : ◌≡◌ {A = ℕ} 21 0 = sym (rw t refl) ∙ q in omega arith)
      go false (inr t) q = absurd (let z : ◌≡◌ {A = ℕ} 21 0 = q in omega arith)

-- the lines of a board's cells
module _ (cells : List ℕ) (ok : Cells cells) {l : List ℕ} (e : l ≡ lines_of cells) where
  pub lines-sound : Sound l
  lines-sound = rw e (sound-lines_of cells ok)

  pub lines-cells : cells_of l ≡ cells
  lines-cells = ap cells_of e ∙ cells-lines_of cells ok

-- ---- a refusal behind others, none of which is given

module _ {x : Refusal} (a b : ℕ) where
  pub told-first : checked a ≡ Err x → checked (first a b) ≡ Err x
  unfolding answer first
  told-first e = go (eqb a 0) refl
    where
      go : (t : Bool) → eqb a 0 ≡ t → checked (first a b) ≡ Err x
      go true q = let z : Ok tt ≡ Err x = rw q at e in cc
      go false q = rw q e

  pub told-second : a ≡ 0 → checked b ≡ Err x → checked (first a b) ≡ Err x
  unfolding first
  told-second none e = rw none e

-- .. that is what is answered
pub told_so : {r : Result Unit Refusal} {x : Refusal} (n : ℕ) → checked n ≡ Err x → r ≡ Err x → r ≡ checked n
told_so n e k = k ∙ sym e

-- ---- a line that is written in a buffer of its own, then kept

pub kept-line : (l old : List ℕ) {points none line : List ℕ} {n : ℕ} → length old ≡ 11 → none ≡ [] → n ≡ length l → points ≡ sets old 0 l → length l ≤ 11
    → line ≡ kept 11 none (take n points) → line ≡ l
kept-line l old {points} {none} {line} {n} long z en ep h k =
    let front : points ≡ l ++ drop (0 + length l) old = ep ∙ sets-eq l old 0 (omega arith) in
    let is : take n points ≡ l = rw (en, front) (take-append_seam l (drop (0 + length l) old)) in
    k ∙ rw (z, is) (kept_lem 11 [] l (omega arith))
