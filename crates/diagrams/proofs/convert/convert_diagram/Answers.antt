-- `diagrams::convert_diagram` meets its contract: the cells that are read are a board's, so what is refused is the side without stones.
-- Assumes nothing.
use mathlib.Core.Path.{ap₂, ◌∙◌}
use mathlib.Core.List.{List}
use Prim.Native.Nat.{ℕ}
use Rattle.rules.proofs.Refusals.{answered}
use Rattle.lent.specs.Lists.{counted, list_out}
use Rattle.text.specs.Reading.{diagram_text_refusal, diagram_text_cells}
use Rattle.diagrams.proofs.Sides.{read_sides, read_text}
use Rattle.diagrams.proofs.convert.convert_diagram.Goals as goal

pub returns : goal.returns
returns c =
    let s = c.args.text.now in
    let read = answered (diagram_text_refusal s) (diagram_text_cells s) c.read_diagram_cells.ensures c.in_ok-cells.was in
    let sides = read_sides s read.0 read.1 in
    let text = read_text s read.1 in
    let k = c.write_stones_of.ensures in (
      k.0 ∙ ap₂ (λ (m : ℕ) (t : List ℕ). counted 1 m c.args.out.now t) sides text,
      k.1 ∙ ap₂ (λ (m : ℕ) (t : List ℕ). list_out m c.args.out.now t) sides text,
    )
