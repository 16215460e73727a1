-- `grid::starts::row_starts_on` meets its contract: by section 3's table. Assumes nothing.
use mathlib.Core.Path.{◌∙◌}
use Rattle.grid.proofs.Placed.{starts_by_lem}
use Rattle.grid.proofs.starts.row_starts_on.Goals as goal

pub returns : goal.returns
returns c =
    let a = c.args in
    c.row_starts_by.ensures ∙ starts_by_lem a.lines.now _ a.code a.player a.kind c.addresses-table.ensures
