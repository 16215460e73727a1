-- A board that is written as a numbered diagram does not read back: its first line has 17 cells, and is refused 5. Assumes nothing.
use mathlib.Core.Path.{◌≡◌, refl, ap, sym, ◌∙◌}
use mathlib.Core.Bool.{false}
use mathlib.Core.List.{List, [], ◌∷◌, ◌++◌}
use Prim.Native.Nat.{ℕ, ◌+◌, ◌-◌, ◌≤◌, ◌<◌}
use native.Mathlib.Omega.{arith}
use lib.Dec.{eqb, leb, ltb}
use lib.ListN.{length, get_or, take, drop}
use Rattle.rules.specs.Refusals.{first, unless}
use Rattle.rules.specs.Tools.{gather, only}
use Rattle.rules.specs.Point.{code_of}
use Rattle.rules.proofs.Logic.{all-fails}
use Rattle.text.specs.Bytes.{newline, blank, dot, digit_zero, capital_a, capital_o, small_o, small_x}
use Rattle.text.specs.Bytes.{space, trim, trim_start, trim_end, dense, has, parts}
use Rattle.text.specs.Reading.{size_at, diagram_refusal, diagram_text_refusal}
use Rattle.text.proofs.Places.{end_more}
use Rattle.display.specs.Texts.{number_text, right_aligned, line_text, row_text, numbered_row, columns_text, numbered_of}
use Rattle.display.proofs.Sizes.{numbered-length}
use Rattle.display.proofs.Shown.{All, only_one, number-has, all_append, all-gather, all-has, all-text, row_has, parts-line}
use Rattle.display.proofs.Shown.{dense-cells}

-- ---- its bytes: byte 10, spaces, the three letters of cells, digits, the letters of the columns
module _ (P : ℕ → Type 0) (n : P newline) (s : P blank) (o : P small_o) (x : P small_x) (e : P dot)
    (digit : (d : ℕ) → d < 10 → P (digit_zero + d))
    (column : (k : ℕ) → k < 15 → P (capital_a + k)) where
  right-has : (m : ℕ) → m ≤ 15 → All P (right_aligned m)
  unfolding right_aligned
  right-has m h = all_append P (only (ltb m 10) (blank ∷ [])) (number_text m) (only_one P (ltb m 10) blank s) (number-has P digit m h)

  line-has : (grid : List ℕ) (k : ℕ) → All P (numbered_row grid k)
  unfolding numbered_row
  line-has grid k =
      all_append P (right_aligned (15 - k) ++ row_text grid (14 - k)) (newline ∷ [])
      (all_append P (right_aligned (15 - k)) (row_text grid (14 - k)) (right-has (15 - k) (omega arith)) (row_has P s o x e grid (14 - k)))
      (n, tt)

  columns-has : All P columns_text
  unfolding columns_text
  columns-has =
      all_append P (blank ∷ blank ∷ blank ∷ []) (gather 15 (λ k. only (ltb 0 k) (blank ∷ []) ++ ((capital_a + k) ∷ []))) (s, (s, (s, tt)))
      (all-gather P 15 (λ k. only (ltb 0 k) (blank ∷ []) ++ ((capital_a + k) ∷ []))
      (λ k h. all_append P (only (ltb 0 k) (blank ∷ [])) ((capital_a + k) ∷ []) (only_one P (ltb 0 k) blank s) (column k h, tt)))

  numbered-has : (grid : List ℕ) → All P (numbered_of grid)
  unfolding numbered_of
  numbered-has grid =
      all_append P (gather 15 (numbered_row grid)) columns_text (all-gather P 15 (numbered_row grid) (λ k _. line-has grid k)) columns-has

-- ---- its first line
first-line : List ℕ → List ℕ
first-line grid = (digit_zero + 1) ∷ (digit_zero + 5) ∷ row_text grid 14

shape : (grid : List ℕ) → numbered_of grid ≡ first-line grid ++ newline ∷ drop 33 (numbered_of grid)
unfolding numbered_of numbered_row right_aligned number_text row_text line_text gather columns_text first-line
shape grid = refl

last_byte : (grid : List ℕ) → numbered_of grid ≡ take 526 (numbered_of grid) ++ (capital_o ∷ [])
unfolding numbered_of numbered_row right_aligned number_text row_text line_text gather columns_text
last_byte grid = refl

start-kept : (grid : List ℕ) → trim_start (numbered_of grid) ≡ numbered_of grid
unfolding trim_start space first-line
start-kept grid = rw (shape grid)

end_kept : (grid : List ℕ) → trim_end (numbered_of grid) ≡ numbered_of grid
unfolding space
end_kept grid = ap trim_end (last_byte grid) ∙ end_more (take 526 (numbered_of grid)) capital_o ∙ sym (last_byte grid)

numbered-kept : (grid : List ℕ) → trim (numbered_of grid) ≡ numbered_of grid
unfolding trim
numbered-kept grid = rw (start-kept grid) (end_kept grid)

line_clear : (grid : List ℕ) → has newline (first-line grid) ≡ false
unfolding has first-line
line_clear grid = all-has newline (row_text grid 14) (row_has (λ b. eqb b newline ≡ false) refl refl refl refl grid 14)

line-cells : (grid : List ℕ) → length (dense (first-line grid)) ≡ 17
unfolding dense space first-line row_text line_text gather
line-cells grid = ap (λ (l : List ℕ). length ((digit_zero + 1) ∷ (digit_zero + 5) ∷ l)) (dense-cells 15 (λ x. get_or grid (code_of x 14) 0))

numbered-lines : (grid : List ℕ) → parts newline (numbered_of grid) ≡ first-line grid ∷ parts newline (drop 33 (numbered_of grid))
numbered-lines grid =
    ap (parts newline) (shape grid) ∙ parts-line newline (first-line grid) (drop 33 (numbered_of grid)) (line_clear grid) refl

long-refused : (l : List ℕ) (ls : List (List ℕ)) → length (dense l) ≡ 17 → diagram_refusal (l ∷ ls) ≡ 5
unfolding diagram_refusal first unless size_at
long-refused l ls e =
    rw (all-fails (length (l ∷ ls)) (λ k. leb (length (dense (get_or (l ∷ ls) k []))) 15) 0 (omega arith) (rw e))

-- the numbered form is refused 5 by `text::read_diagram`
pub numbered-refused : (grid : List ℕ) → diagram_text_refusal (numbered_of grid) ≡ 5
unfolding diagram_text_refusal first
numbered-refused grid =
    rw (
      all-text (numbered_of grid)
          (numbered-has (λ b. b < 128) (omega arith) (omega arith) (omega arith) (omega arith) (omega arith) (λ d h. omega arith)
          (λ k h. omega arith) grid) (omega (arith, numbered-length grid)),
      numbered-kept grid,
      numbered-lines grid,
    )
    (long-refused (first-line grid) (parts newline (drop 33 (numbered_of grid))) (line-cells grid))
