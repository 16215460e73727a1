-- The converter (document 02, No. 13): stones text of a board's cells, and what is refused on the way to it. The quoted sentences are
-- document 02's.
use Rattle.std.specs.Prelude.{List, ◌∷◌, ◌++◌, ℕ, ltb, length}
use Rattle.rules.specs.Refusals.{one_sided, unless, first}
use Rattle.rules.specs.Grid.{stones_of}
use Rattle.rules.specs.declared.Player.{Player}
use Rattle.rules.specs.declared.Player.TheVariants.{Black, White}
use Rattle.cells.specs.Cells.{cells_refusal}
use Rattle.text.specs.Bytes.{slash}
use Rattle.text.specs.Reading.{diagram_text_refusal, diagram_text_cells}
use Rattle.display.specs.Texts.{points_text}

-- ---- "writes stones text, black then white, each by ascending code"

-- the points of a side's stones with commas between them
unfoldable pub side_text : Player → List ℕ → List ℕ
side_text r cells = points_text (stones_of r cells)

unfoldable pub stones_text : List ℕ → List ℕ
stones_text cells = side_text Black cells ++ slash ∷ side_text White cells

-- ---- "A side without stones can't be written so."

unfoldable pub side_refusal : Player → List ℕ → ℕ
side_refusal r cells = unless (ltb 0 (length (stones_of r cells))) one_sided

unfoldable pub sides_refusal : List ℕ → ℕ
sides_refusal cells = first (side_refusal Black cells) (side_refusal White cells)

-- of cell bytes: 9 for bytes that are no board's, then 22
unfoldable pub cells_sides_refusal : List ℕ → ℕ
cells_sides_refusal cells = first (cells_refusal cells) (sides_refusal cells)

-- ---- a saved diagram: "22 .. after 5, 6 and 7 (now the converter's only) and before 13"

unfoldable pub convert_refusal : List ℕ → ℕ
convert_refusal s = first (diagram_text_refusal s) (sides_refusal (diagram_text_cells s))

unfoldable pub converted : List ℕ → List ℕ
converted s = stones_text (diagram_text_cells s)
