-- `board::board::Board::new` meets its contract: the lines of the empty cells are zeros. Assumes nothing.
use mathlib.Core.Path.{◌∙◌}
use Rattle.lent.specs.Lists.{zeros}
use Rattle.grid.proofs.Lines.{lines-zeros}
use Rattle.board.proofs.Given.{from-lines}
use Rattle.board.proofs.board.Board.new.Goals as goal

pub returns : goal.returns
unfolding zeros
returns c = c.from_lines.ensures ∙ from-lines _ lines-zeros
