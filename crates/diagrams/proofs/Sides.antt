-- How long a side's text is, and that it is written where there is room for it. Assumes nothing.
use mathlib.Core.Path.{◌≡◌, refl, ap, sym}
use mathlib.Core.Bool.{Bool, true, false}
use mathlib.Core.List.{List, [], ◌∷◌, ◌++◌}
use Prim.Native.Nat.{ℕ, ◌≤◌, ◌<◌}
use native.Mathlib.Omega.{arith}
use lib.Dec.{eqb, ltb, lt→ltb}
use lib.ListN.{length, get_or, take}
use borrow.Author.Tests.{le-leb}
use Rattle.std.specs.Prelude.{Ok}
use Rattle.std.proofs.lemmas.List.{take_at}
use Rattle.rules.specs.Answers.{answer}
use Rattle.rules.specs.Refusals.{first, unless}
use Rattle.rules.specs.Tools.{only, all_below}
use Rattle.rules.specs.Grid.{stones_of}
use Rattle.rules.proofs.Logic.{all-intro}
use Rattle.rules.proofs.Refusals.{pass}
use Rattle.lent.specs.Lists.{list_refusal, list_out, fits, laid}
use Rattle.lent.proofs.Laws.{short, gather-length}
use Rattle.cells.specs.Cells.{cells_refusal, codes_refusal, value_list}
use Rattle.cells.proofs.Given.{cells-pass}
use Rattle.text.specs.Bytes.{slash}
use Rattle.text.specs.Reading.{diagram_text_refusal, diagram_text_cells}
use Rattle.text.proofs.Sound.{diagram-text-ok}
use Rattle.display.specs.Answers.{written}
use Rattle.display.specs.Texts.{point_item, points_text}
use Rattle.display.proofs.Sizes.{item-short}
use Rattle.display.proofs.Shown.{All, all-gather, all-at}
use Rattle.display.proofs.PointBack.{Points}
use Rattle.diagrams.specs.Stones.{side_text, stones_text, side_refusal, sides_refusal, cells_sides_refusal, convert_refusal, converted}

-- ---- the codes of a side are points

all-points : (codes : List ℕ) → All (λ c. c < 225) codes → Points codes
all-points [] h = tt
all-points (c ∷ codes) h = (h.0, all-points codes h.1)

-- at most five bytes each
pub list_short : (codes : List ℕ) → length codes ≤ 225 → length (points_text codes) ≤ 1125
unfolding points_text
list_short codes few =
    let a = gather-length 5 (length codes) (point_item codes) (λ i h. item-short (ltb 0 i) (get_or codes i 0)) in omega arith

module _ (cells : List ℕ) (value : ℕ) where
  one : (p : ℕ) → p < 225 → (b : Bool) → All (λ c. c < 225) (only b (p ∷ []))
  one p h true = (h, tt)
  one p h false = tt

  codes_all : All (λ c. c < 225) (value_list cells value)
  unfolding value_list
  codes_all = all-gather (λ c. c < 225) 225 _ (λ p h. one p h (eqb (get_or cells p 0) value))

  pub codes-points : Points (value_list cells value)
  codes-points = all-points (value_list cells value) codes_all

  pub codes-good : codes_refusal (value_list cells value) ≡ 0
  unfolding codes_refusal
  codes-good =
      pass (all_below (length (value_list cells value)) (λ i. ltb (get_or (value_list cells value) i 0) 225)) 8
      (all-intro (length (value_list cells value)) (λ i. ltb (get_or (value_list cells value) i 0) 225)
      (λ i h. lt→ltb (get_or (value_list cells value) i 0) 225 (all-at (λ c. c < 225) (value_list cells value) codes_all i h)))

  pub codes-few : length (value_list cells value) ≤ 225
  unfolding value_list
  codes-few = let a = short 1 (λ p. eqb (get_or cells p 0) value) (λ p. p ∷ []) (λ p. omega arith) 225 in omega arith

  pub text-short : length (points_text (value_list cells value)) ≤ 1125
  text-short = list_short (value_list cells value) codes-few

-- ---- a text that is written where there is room for it: it stands in front

module _ (told : ℕ) (out text : List ℕ) (none : told ≡ 0) (room : length text ≤ length out) where
  pub fit_told : written told out text ≡ Ok (length text)
  unfolding written answer list_refusal first unless fits
  fit_told = rw (none, le-leb (length text) (length out) room)

  pub fit-front : take (length text) (list_out told out text) ≡ text
  unfolding list_out list_refusal first unless fits laid
  fit-front = rw (none, le-leb (length text) (length out) room) (take_at text _ (length text) refl)

-- ---- the two sides of cells

module _ (cells : List ℕ) {blacks whites : List ℕ} (hb : blacks ≡ value_list cells 1) (hw : whites ≡ value_list cells 2) where
  pub sides-told : first (unless (ltb 0 (length blacks)) 22) (unless (ltb 0 (length whites)) 22) ≡ sides_refusal cells
  unfolding sides_refusal side_refusal stones_of value_list
  sides-told = rw (hb, hw)

  pub both-text : points_text blacks ++ slash ∷ points_text whites ≡ stones_text cells
  unfolding stones_text side_text stones_of value_list
  both-text = rw (hb, hw)

  pub all_told : cells_refusal cells ≡ 0 → cells_sides_refusal cells ≡ first (unless (ltb 0 (length blacks)) 22) (unless (ltb 0 (length whites)) 22)
  unfolding cells_sides_refusal first
  all_told e = rw (e) (sym sides-told)

-- ---- a saved diagram, as it was read

module _ (s : List ℕ) {cells : List ℕ} where
  pub read_sides : diagram_text_refusal s ≡ 0 → cells ≡ diagram_text_cells s → cells_sides_refusal cells ≡ convert_refusal s
  unfolding cells_sides_refusal convert_refusal first
  read_sides z e = rw (e, cells-pass (diagram_text_cells s) (diagram-text-ok s), z)

  pub read_text : cells ≡ diagram_text_cells s → stones_text cells ≡ converted s
  unfolding converted
  read_text e = ap stones_text e
