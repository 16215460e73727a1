-- `grid::shown::cells_on` meets its contract: after i turns the first i cells are filled in. Assumes nothing.
use mathlib.Core.Path.{◌≡◌, ap, ◌∙◌}
use native.Mathlib.Omega.{arith}
use Rattle.lent.specs.Lists.{zeros}
use Rattle.grid.specs.Lines.{cell_of, cells_of}
use Rattle.cells.proofs.Filled.{filled, filled_none, filled_more, filled-all}
use Rattle.grid.proofs.shown.cells_on.Goals as goal

pub loop-i-init : goal.loop-i-init
unfolding zeros
loop-i-init c = filled_none 225 (cell_of c.args.lines.now)

pub loop-i-preserved : goal.loop-i-preserved
loop-i-preserved c =
    rw (c.loop-i.invariant, c.cell_on.ensures) (filled_more 225 (cell_of c.args.lines.now) c.loop-i.i (omega arith))

pub returns : goal.returns
unfolding cells_of
returns c =
    let l = c.args.lines.now in
    let e : c.loop-i.i ≡ 225 = omega arith in
    c.loop-i.invariant ∙ ap (filled 225 (cell_of l)) e ∙ filled-all 225 (cell_of l)
