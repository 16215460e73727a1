-- `text::boards::read_diagram` meets its contract: the board of the cells that are read. Assumes nothing.
use mathlib.Core.Path.{◌∙◌}
use Rattle.board.proofs.Given.{read-given}
use Rattle.text.specs.Reading.{diagram_text_refusal, diagram_text_cells}
use Rattle.text.proofs.Sound.{diagram-text-ok}
use Rattle.text.proofs.boards.read_diagram.Goals as goal

pub returns : goal.returns
returns c =
    let s = c.args.text.now in
    c.read.ensures ∙ read-given (diagram_text_refusal s) (diagram_text_cells s) c.read_diagram_cells.ensures (diagram-text-ok s)
