-- `text::boards::read_board` meets its contract: the board of the cells that are read. Assumes nothing.
use mathlib.Core.Path.{◌∙◌}
use Rattle.board.proofs.Given.{read-given}
use Rattle.text.specs.Reading.{read_refusal, read_cells}
use Rattle.text.proofs.Sound.{read_ok}
use Rattle.text.proofs.boards.read_board.Goals as goal

pub returns : goal.returns
returns c =
    let s = c.args.text.now in
    c.read.ensures ∙ read-given (read_refusal s) (read_cells s) c.read_cells.ensures (read_ok s)
