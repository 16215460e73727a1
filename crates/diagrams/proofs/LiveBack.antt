-- "What the converter writes is read by the live entry as the same board" (document 02). Assumes nothing.
use mathlib.Core.Path.{◌≡◌, refl, ap, ap₂, sym, ◌∙◌}
use mathlib.Core.Bool.{Bool, true, false, ◌||◌, cond}
use mathlib.Core.List.{List, [], ◌∷◌, ◌++◌, append_assoc}
use Prim.Native.Nat.{ℕ, ◌+◌, ◌≤◌, ◌<◌}
use native.Mathlib.Nat.{not-suc-le-zero}
use native.Mathlib.Omega.{arith}
use lib.Dec.{eqb, ltb, ltb→lt}
use lib.ListN.{length, length-append}
use borrow.Author.Tests.{ne_eqb}
use Rattle.rules.specs.Refusals.{first, unless}
use Rattle.rules.specs.Answers.{answer}
use Rattle.rules.specs.Grid.{stones_of}
use Rattle.rules.specs.declared.Player.{Player}
use Rattle.rules.specs.declared.Player.TheVariants.{Black, White}
use Rattle.rules.proofs.Logic.{no_true}
use Rattle.rules.proofs.Refusals.{first-none, none_first, passed}
use Rattle.cells.specs.Cells.{Cells, value_list, stones_cells}
use Rattle.board.specs.Answers.{board_answer}
use Rattle.text.specs.Bytes.{slash, digit_zero, capital_a, trim, trim_end, has, before, behind, text_refusal}
use Rattle.text.specs.Points.{points_refusal, points_in}
use Rattle.text.specs.Reading.{slash_refusal, black_list, white_list, stones_text_refusal, stones_in, form_refusal, read_refusal, read_cells}
use Rattle.text.specs.Reading.{diagram_text_refusal, diagram_text_cells}
use Rattle.text.proofs.Sound.{diagram-text-ok}
use Rattle.display.specs.Texts.{points_text, diagram_of, numbered_of}
use Rattle.display.proofs.Shown.{All, all_append, all-has, all-text}
use Rattle.display.proofs.PointBack.{Points, list-start, list-end, list-has, list-good, list_back}
use Rattle.display.proofs.ReadBack.{diagram-pass, diagram-said}
use Rattle.display.proofs.Unread.{numbered-refused}
use Rattle.diagrams.specs.Stones.{side_text, stones_text, side_refusal, sides_refusal, convert_refusal, converted}
use Rattle.diagrams.proofs.Own.{own-stones}
use Rattle.diagrams.proofs.Sides.{codes-points, text-short}

-- ---- a text with a byte d in it: what stands before the first d, and behind it

module _ (d : ℕ) (z : eqb d d ≡ true) (b : List ℕ) where
  has_there : (a : List ℕ) → has d (a ++ d ∷ b) ≡ true
  unfolding has
  has_there [] = rw (z)
  has_there (x ∷ a) = go (eqb x d) (has_there a)
    where
      go : (t : Bool) → has d (a ++ d ∷ b) ≡ true → (t || has d (a ++ d ∷ b)) ≡ true
      go true r = refl
      go false r = r

  before-there : (a : List ℕ) → has d a ≡ false → before d (a ++ d ∷ b) ≡ a
  unfolding has before
  before-there [] h = rw (z)
  before-there (x ∷ a) h = go (eqb x d) h (before-there a)
    where
      go : (t : Bool) → (t || has d a) ≡ false → (has d a ≡ false → before d (a ++ d ∷ b) ≡ a)
          → cond t [] (x ∷ before d (a ++ d ∷ b)) ≡ x ∷ a
      go true e r = absurd (no_true (sym e))
      go false e r = ap (λ (l : List ℕ). x ∷ l) (r e)

  behind-there : (a : List ℕ) → has d a ≡ false → behind d (a ++ d ∷ b) ≡ b
  unfolding has behind
  behind-there [] h = rw (z)
  behind-there (x ∷ a) h = go (eqb x d) h (behind-there a)
    where
      go : (t : Bool) → (t || has d a) ≡ false → (has d a ≡ false → behind d (a ++ d ∷ b) ≡ b)
          → cond t (a ++ d ∷ b) (behind d (a ++ d ∷ b)) ≡ b
      go true e r = absurd (no_true (sym e))
      go false e r = r e

before-all : (d : ℕ) (a : List ℕ) → has d a ≡ false → before d a ≡ a
unfolding has before
before-all d [] h = refl
before-all d (x ∷ a) h = go (eqb x d) h (before-all d a)
  where
    go : (t : Bool) → (t || has d a) ≡ false → (has d a ≡ false → before d a ≡ a) → cond t [] (x ∷ before d a) ≡ x ∷ a
    go true e r = absurd (no_true (sym e))
    go false e r = ap (λ (l : List ℕ). x ∷ l) (r e)

-- ---- two lists of points with a slash between them

list-clear : (codes : List ℕ) → Points codes → has slash (points_text codes) ≡ false
list-clear codes h =
    all-has slash (points_text codes)
    (list-has (λ b. eqb b slash ≡ false) (λ x l. ne_eqb (capital_a + x) slash (λ e. omega arith))
    (λ d l. ne_eqb (digit_zero + d) slash (λ e. omega arith)) refl codes h)

list-low : (codes : List ℕ) → Points codes → All (λ b. b < 128) (points_text codes)
list-low codes h = list-has (λ b. b < 128) (λ x l. omega arith) (λ d l. omega arith) (omega arith) codes h

module _ (c : ℕ) (l : List ℕ) (h : Points (c ∷ l)) (d : ℕ) (m : List ℕ) (k : Points (d ∷ m)) where
  abbrev first-list : List ℕ
  first-list = points_text (c ∷ l)

  abbrev second-list : List ℕ
  second-list = points_text (d ∷ m)

  abbrev both : List ℕ
  both = first-list ++ slash ∷ second-list

  both-low : All (λ b. b < 128) both
  both-low = all_append (λ b. b < 128) first-list (slash ∷ second-list) (list-low (c ∷ l) h) (omega arith, list-low (d ∷ m) k)

  both-trim : trim both ≡ both
  unfolding trim
  both-trim =
      let e = append_assoc first-list (slash ∷ []) second-list in
      rw (list-start c l (slash ∷ second-list) h) (ap trim_end (sym e) ∙ list-end (first-list ++ slash ∷ []) d m k ∙ e)

  black-is : black_list both ≡ first-list
  black-is = before-there slash refl second-list first-list (list-clear (c ∷ l) h)

  rest-is : behind slash both ≡ second-list
  rest-is = behind-there slash refl second-list first-list (list-clear (c ∷ l) h)

  white-is : white_list both ≡ second-list
  white-is = ap (before slash) rest-is ∙ before-all slash second-list (list-clear (d ∷ m) k)

  slash-pass : slash_refusal both ≡ 0
  unfolding slash_refusal unless
  slash-pass = rw (rest-is, list-clear (d ∷ m) k)

  lists-pass : stones_text_refusal both ≡ 0
  unfolding stones_text_refusal
  lists-pass =
      none_first (first (points_refusal (black_list both)) (points_refusal (white_list both))) (slash_refusal both)
      (none_first (points_refusal (black_list both)) (points_refusal (white_list both)) (ap points_refusal black-is ∙ list-good c l h)
      (ap points_refusal white-is ∙ list-good d m k)) slash-pass

  lists-said : stones_in both ≡ stones_cells (c ∷ l) (d ∷ m)
  unfolding stones_in
  lists-said = ap₂ stones_cells (ap points_in black-is ∙ list_back c l h) (ap points_in white-is ∙ list_back d m k)

  both_read : length both ≤ 4096 → (read_refusal both ≡ 0) × (read_cells both ≡ stones_cells (c ∷ l) (d ∷ m))
  unfolding read_refusal form_refusal read_cells
  both_read short =
      let there = has_there slash refl second-list first-list in (
        none_first (text_refusal both) (form_refusal both) (all-text both both-low short)
            (rw (there) (ap stones_text_refusal both-trim ∙ lists-pass)),
        rw (there) (ap stones_in both-trim ∙ lists-said),
      )

lists-read : (l m : List ℕ) → Points l → Points m → 0 < length l → 0 < length m → length (points_text l ++ slash ∷ points_text m) ≤ 4096
    → (read_refusal (points_text l ++ slash ∷ points_text m) ≡ 0) × (read_cells (points_text l ++ slash ∷ points_text m) ≡ stones_cells l m)
lists-read [] m h k a b short = absurd (not-suc-le-zero a)
lists-read (c ∷ l) [] h k a b short = absurd (not-suc-le-zero b)
lists-read (c ∷ l) (d ∷ m) h k a b short = both_read c l h d m k short

-- ---- a board's cells

module _ (cells : List ℕ) where
  -- each side has a stone where 22 is not given
  side-some : (r : Player) → side_refusal r cells ≡ 0 → 0 < length (stones_of r cells)
  unfolding side_refusal
  side-some r e = ltb→lt 0 (length (stones_of r cells)) (passed (ltb 0 (length (stones_of r cells))) 21 e)

  -- 2,251 bytes are room enough
  pub stones-short : length (stones_text cells) ≤ 2251
  unfolding stones_text side_text stones_of value_list
  stones-short =
      let e = length-append (points_text (stones_of Black cells)) (slash ∷ points_text (stones_of White cells)) in
      omega (arith, text-short cells 1, text-short cells 2)

  -- the stones text of cells is read by the live entry as these cells: `text::read_cells` of what `write_stones_of` writes
  pub stones-back : Cells cells → sides_refusal cells ≡ 0 → (read_refusal (stones_text cells) ≡ 0) × (read_cells (stones_text cells) ≡ cells)
  unfolding stones_text side_text sides_refusal stones_of value_list
  stones-back ok z =
      let some = first-none (side_refusal Black cells) (side_refusal White cells) z in
      let read = lists-read (stones_of Black cells) (stones_of White cells) (codes-points cells 1) (codes-points cells 2)
      (side-some Black some.0) (side-some White some.1) (omega (arith, stones-short)) in
      (read.0, read.1 ∙ own-stones cells ok)

-- ---- a saved diagram

module _ (s : List ℕ) (z : convert_refusal s ≡ 0) where
  parts_none : (diagram_text_refusal s ≡ 0) × (sides_refusal (diagram_text_cells s) ≡ 0)
  unfolding convert_refusal
  parts_none = first-none (diagram_text_refusal s) (sides_refusal (diagram_text_cells s)) z

  live_same : (read_refusal (converted s) ≡ diagram_text_refusal s) × (read_cells (converted s) ≡ diagram_text_cells s)
  unfolding converted
  live_same =
      let read = stones-back (diagram_text_cells s) (diagram-text-ok s) parts_none.1 in
      (read.0 ∙ sym parts_none.0, read.1)

  -- what the converter writes is read by the live entry as the converter's reader reads the diagram: the same cells
  pub converted-cells : answer (read_refusal (converted s)) (read_cells (converted s)) ≡ answer (diagram_text_refusal s) (diagram_text_cells s)
  converted-cells = ap₂ answer live_same.0 live_same.1

  -- .. and the same board: `text::read_board` of what `convert_diagram` writes, and `text::read_diagram` of the diagram
  pub converted-board : board_answer (read_refusal (converted s)) (read_cells (converted s)) ≡ board_answer (diagram_text_refusal s) (diagram_text_cells s)
  converted-board = ap₂ board_answer live_same.0 live_same.1

-- a board written as a plain diagram is converted to its own stones text, or refused 22
pub plain-converted : (grid : List ℕ) → Cells grid
    → (convert_refusal (diagram_of grid) ≡ sides_refusal grid) × (converted (diagram_of grid) ≡ stones_text grid)
unfolding convert_refusal converted first
plain-converted grid ok = rw (diagram-pass grid, diagram-said grid ok) (refl, refl)

-- the numbered form is refused 5 by the converter too
pub numbered-converted : (grid : List ℕ) → convert_refusal (numbered_of grid) ≡ 5
unfolding convert_refusal first
numbered-converted grid = rw (numbered-refused grid)
