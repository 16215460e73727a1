-- `grid::shown::lines_of` meets its contract: by section 3's table. Assumes nothing.
use mathlib.Core.Path.{◌∙◌}
use Rattle.grid.proofs.Built.{lines-by}
use Rattle.grid.proofs.shown.lines_of.Goals as goal

pub returns : goal.returns
returns c =
    c.lines_by.ensures ∙ lines-by c.args.cells.now _ c.addresses-table.ensures
