-- Cells that are written as a plain diagram read back as the same cells, and a board as the same board. Assumes nothing.
use mathlib.Core.Path.{◌≡◌, refl, ap, ap₂, sym, ◌∙◌}
use mathlib.Core.Bool.{Bool, true, false, ◌&&◌, cond}
use mathlib.Core.List.{List, [], ◌∷◌, ◌++◌, map}
use Prim.Native.Nat.{ℕ, zero, suc, ◌-◌, ◌≤◌, ◌<◌}
use native.Mathlib.Nat.{not-suc-le-zero}
use native.Mathlib.Omega.{arith}
use lib.Dec.{eqb, leb, ltb}
use lib.ListN.{length, get_or, take, drop, get_or-map, length-map}
use borrow.Author.Tests.{eq-eqb}
use Rattle.std.specs.Prelude.{Ok}
use Rattle.rules.specs.Refusals.{first, unless}
use Rattle.rules.specs.Answers.{answer}
use Rattle.rules.specs.Tools.{gather, tab, only, all_below}
use Rattle.rules.specs.Point.{x_of, y_of, code_of}
use Rattle.rules.proofs.Lists.{is-tab, tab-cong}
use Rattle.rules.proofs.Logic.{and-flip, no_true}
use Rattle.cells.specs.Cells.{Cells}
use Rattle.grid.proofs.Lines.{cells-cells_of}
use Rattle.board.specs.Boards.{cells, board_refusal}
use Rattle.board.specs.Answers.{board_answer}
use Rattle.board.specs.declared.board.Board.{Board}
use Rattle.board.proofs.Given.{whole-board}
use Rattle.text.specs.Bytes.{newline, blank, comma, dot, slash, small_o, small_x, space, trim, trim_start, trim_end, dense, has, parts}
use Rattle.text.specs.Bytes.{onto_first, text_refusal}
use Rattle.text.specs.Reading.{count_refusal, size_at, diagram_refusal, diagram_cells, letter_cell, diagram_text_refusal, diagram_text_cells}
use Rattle.text.specs.Reading.{read_refusal}
use Rattle.text.proofs.Places.{end_more, parts_whole}
use Rattle.text.specs.Points.{point_text_refusal}
use Rattle.text.proofs.Named.{names_point, point-named}
use Rattle.text.proofs.Lone.{lone-refusal}
use Rattle.display.specs.Texts.{letter_or, line_text, row_text, plain_row, diagram_of}
use Rattle.display.proofs.Sizes.{diagram-length}
use Rattle.display.proofs.Shown.{All, all_append, all-gather, all-has, all-text, letter-has, row_has, parts-line}
use Rattle.display.proofs.Shown.{letters, dense-cells}

-- ---- its bytes and its lines

only-has : (P : ℕ → Type 0) → P newline → (b : Bool) → All P (only b (newline ∷ []))
only-has P n true = (n, tt)
only-has P n false = tt

diagram-has : (P : ℕ → Type 0) → P newline → P blank → P small_o → P small_x → P dot → (grid : List ℕ) → All P (diagram_of grid)
unfolding diagram_of plain_row
diagram-has P n s o x e grid =
    all-gather P 15 (plain_row grid)
    (λ k _. all_append P (row_text grid (14 - k)) (only (ltb k 14) (newline ∷ [])) (row_has P s o x e grid (14 - k))
    (only-has P n (ltb k 14)))

row : List ℕ → ℕ → ℕ → ℕ
row grid y x = get_or grid (code_of x y) 0

-- rows y down to 0, as one text and as lines of letters
down_text : List ℕ → ℕ → List ℕ
down_text grid zero = row_text grid zero
down_text grid (suc y) = row_text grid (suc y) ++ newline ∷ down_text grid y

down_rows : List ℕ → ℕ → List (List ℕ)
down_rows grid zero = letters 15 (row grid zero) ∷ []
down_rows grid (suc y) = letters 15 (row grid (suc y)) ∷ down_rows grid y

shape : (grid : List ℕ) → diagram_of grid ≡ down_text grid 14
unfolding diagram_of plain_row row_text line_text gather down_text
shape grid = refl

row-clear : (grid : List ℕ) (y : ℕ) → has newline (row_text grid y) ≡ false
row-clear grid y = all-has newline (row_text grid y) (row_has (λ b. eqb b newline ≡ false) refl refl refl refl grid y)

row-dense : (grid : List ℕ) (y : ℕ) → dense (row_text grid y) ≡ letters 15 (row grid y)
unfolding row_text line_text row
row-dense grid y = dense-cells 15 (λ x. get_or grid (code_of x y) 0)

down_lines : (grid : List ℕ) (y : ℕ) → map dense (parts newline (down_text grid y)) ≡ down_rows grid y
unfolding down_text down_rows
down_lines grid zero =
    rw (parts_whole newline (row_text grid zero) (row-clear grid zero)) (ap (λ (l : List ℕ). l ∷ []) (row-dense grid zero))
down_lines grid (suc y) =
    rw (parts-line newline (row_text grid (suc y)) (down_text grid y) (row-clear grid (suc y)) refl)
    (ap₂ {C = List (List ℕ)} (λ l ls. l ∷ ls) (row-dense grid (suc y)) (down_lines grid y))

-- without its first byte, a space, the diagram has no white space at its ends
unfoldable rest : List ℕ → List ℕ
rest grid = drop 1 (diagram_of grid)

first_byte : (grid : List ℕ) → diagram_of grid ≡ blank ∷ rest grid
unfolding rest diagram_of plain_row row_text line_text gather
first_byte grid = refl

second-byte : (grid : List ℕ) → rest grid ≡ letter_or dot (get_or grid 14 0) ∷ drop 2 (diagram_of grid)
unfolding rest diagram_of plain_row row_text line_text gather
second-byte grid = refl

last_byte : (grid : List ℕ) → rest grid ≡ take 462 (rest grid) ++ (letter_or dot (get_or grid 210 0) ∷ [])
unfolding rest diagram_of plain_row row_text line_text gather
last_byte grid = refl

letter-space : (v : ℕ) → space (letter_or dot v) ≡ false
unfolding space
letter-space v = letter-has (λ b. space b ≡ false) refl refl refl v

start-cut : (grid : List ℕ) → trim_start (diagram_of grid) ≡ rest grid
unfolding trim_start space
start-cut grid =
    rw (first_byte grid) (rw (second-byte grid) (rw (letter-space (get_or grid 14 0))))

end_kept : (grid : List ℕ) → trim_end (rest grid) ≡ rest grid
end_kept grid =
    ap trim_end (last_byte grid) ∙ end_more (take 462 (rest grid)) (letter_or dot (get_or grid 210 0)) ∙ rw (letter-space (get_or grid 210 0))
    (sym (last_byte grid))

diagram-cut : (grid : List ℕ) → trim (diagram_of grid) ≡ rest grid
unfolding trim
diagram-cut grid = rw (start-cut grid) (end_kept grid)

-- a byte of white space in front of a text changes no line
onto-some : (b : ℕ) (ls : List (List ℕ)) → 0 < length (onto_first b ls)
unfolding onto_first
onto-some b [] = omega arith
onto-some b (l ∷ ls) = omega arith

parts-some : (d : ℕ) (s : List ℕ) → 0 < length (parts d s)
unfolding parts
parts-some d [] = omega arith
parts-some d (b ∷ s) = go (eqb b d)
  where
    go : (t : Bool) → 0 < length (cond t ([] ∷ parts d s) (onto_first b (parts d s)))
    go true = omega arith
    go false = onto-some b (parts d s)

onto-space : (ls : List (List ℕ)) → 0 < length ls → map dense (onto_first blank ls) ≡ map dense ls
unfolding onto_first dense space
onto-space [] h = absurd (not-suc-le-zero h)
onto-space (l ∷ ls) h = refl

lines-space : (t : List ℕ) → map dense (parts newline (blank ∷ t)) ≡ map dense (parts newline t)
unfolding parts
lines-space t = onto-space (parts newline t) (parts-some newline t)

-- ---- the whole

cut-lines : (grid : List ℕ) → map dense (parts newline (trim (diagram_of grid))) ≡ down_rows grid 14
cut-lines grid =
    ap (λ (s : List ℕ). map dense (parts newline s)) (diagram-cut grid) ∙ sym (lines-space (rest grid))
    ∙ ap (λ (s : List ℕ). map dense (parts newline s)) (sym (first_byte grid) ∙ shape grid) ∙ down_lines grid 14

dense-none : dense [] ≡ []
unfolding dense
dense-none = refl

rows-said : (grid : List ℕ)
    → tab 225 (λ p. letter_cell (get_or (get_or (down_rows grid 14) (14 - y_of p) []) (x_of p) 0)) ≡ tab 225
    (λ p. letter_cell (letter_or dot (get_or grid p 0)))
unfolding down_rows gather row tab
rows-said grid = refl

module _ (grid : List ℕ) (ls : List (List ℕ)) (e : map dense ls ≡ down_rows grid 14) where
  line_at : (k : ℕ) → dense (get_or ls k []) ≡ get_or (down_rows grid 14) k []
  line_at k =
      sym (get_or-map dense ls k []) ∙ ap (λ (d : List ℕ). get_or (map dense ls) k d) dense-none ∙ ap
      (λ (m : List (List ℕ)). get_or m k []) e

  line-count : length ls ≡ 15
  unfolding down_rows
  line-count = sym (length-map ls dense) ∙ ap length e

  lines-pass : diagram_refusal ls ≡ 0
  unfolding diagram_refusal count_refusal size_at down_rows gather all_below first unless
  lines-pass = rw line-count (all-15 line_at)
    where
      all-15 : ((k : ℕ) → dense (get_or ls k []) ≡ get_or (down_rows grid 14) k [])
          → first (unless (all_below 15 (λ k. leb (length (dense (get_or ls k []))) 15)) 5)
          (first 0 (unless (all_below 15 (λ k. eqb (length (dense (get_or ls k []))) 15)) 7)) ≡ 0
      all-15 at = rw (at 0, at 1, at 2, at 3, at 4, at 5, at 6, at 7, at 8, at 9, at 10, at 11, at 12, at 13, at 14)

  lines-said : diagram_cells ls ≡ tab 225 (λ p. letter_cell (letter_or dot (get_or grid p 0)))
  unfolding diagram_cells
  lines-said =
      tab-cong 225 (λ p. letter_cell (get_or (dense (get_or ls (14 - y_of p) [])) (x_of p) 0))
      (λ p. letter_cell (get_or (get_or (down_rows grid 14) (14 - y_of p) []) (x_of p) 0))
      (λ p h. ap (λ (l : List ℕ). letter_cell (get_or l (x_of p) 0)) (line_at (14 - y_of p)))
      ∙ rows-said grid

letter-back : (v : ℕ) → v ≤ 2 → letter_cell (letter_or dot v) ≡ v
unfolding letter_cell letter_or
letter-back zero h = refl
letter-back (suc zero) h = refl
letter-back (suc (suc zero)) h = refl
letter-back (suc (suc (suc v))) h = omega arith

module _ (grid : List ℕ) where
  pub diagram-pass : diagram_text_refusal (diagram_of grid) ≡ 0
  unfolding diagram_text_refusal first
  diagram-pass =
      rw (all-text (diagram_of grid)
      (diagram-has (λ b. b < 128) (omega arith) (omega arith) (omega arith) (omega arith) (omega arith) grid)
      (omega (arith, diagram-length grid)))
      (lines-pass grid (parts newline (trim (diagram_of grid))) (cut-lines grid))

  pub diagram-said : Cells grid → diagram_text_cells (diagram_of grid) ≡ grid
  unfolding diagram_text_cells
  diagram-said ok =
      lines-said grid (parts newline (trim (diagram_of grid))) (cut-lines grid)
      ∙ sym (is-tab grid 225 (λ p. letter_cell (letter_or dot (get_or grid p 0))) ok.long
      (λ p h. sym (letter-back (get_or grid p 0) (ok.small p h))))

  -- cells that are written as a plain diagram read back as the same cells: `text::read_diagram_cells` of what `write_diagram_of` writes
  pub cells-back : Cells grid
      → answer (diagram_text_refusal (diagram_of grid)) (diagram_text_cells (diagram_of grid)) ≡ Ok grid
  unfolding answer
  cells-back ok = rw (diagram-pass, diagram-said ok)

  -- .. and the live entry, which takes no diagram, refuses it, whatever the cells: it is no point
  diagram-none : (d : ℕ) → eqb newline d ≡ false → eqb blank d ≡ false → eqb small_o d ≡ false → eqb small_x d ≡ false
      → eqb dot d ≡ false → has d (diagram_of grid) ≡ false
  diagram-none d n s o x e = all-has d (diagram_of grid) (diagram-has (λ b. eqb b d ≡ false) n s o x e grid)

  no-point : names_point (rest grid) ≡ false
  unfolding names_point rest diagram_of plain_row row_text line_text gather
  no-point = refl

  pub live-refuses : read_refusal (diagram_of grid) ≡ 0 → ⊥
  live-refuses z =
      let s = diagram_of grid in
      let lone = lone-refusal s (diagram-none slash refl refl refl refl refl) (diagram-none comma refl refl refl refl refl) in
      let named = point-named s ∙ ap (λ (t : List ℕ). eqb (text_refusal s) 0 && names_point t) (diagram-cut grid)
      ∙ ap (λ (b : Bool). eqb (text_refusal s) 0 && b) no-point ∙ and-flip (eqb (text_refusal s) 0) false in
      no_true (sym named ∙ eq-eqb (point_text_refusal s) 0 (sym lone ∙ z))

module _ (b : Board) (h : board_refusal b ≡ 0) where
  -- a sound board that is written as a plain diagram reads back as the same board: `text::read_diagram` of what `write_diagram` writes
  pub reads-back : board_answer (diagram_text_refusal (diagram_of (cells b))) (diagram_text_cells (diagram_of (cells b)))
      ≡ Ok b
  unfolding board_answer answer
  reads-back =
      rw (diagram-pass (cells b), diagram-said (cells b) (cells-cells_of b.lines), ← whole-board b h)
