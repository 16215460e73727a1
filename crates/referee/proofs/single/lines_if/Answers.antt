-- `referee::single::lines_if` meets its contract. Assumes nothing.
use mathlib.Core.Path.{◌∙◌}
use Rattle.lent.specs.Lists.{zeros}
use Rattle.grid.proofs.Built.{lines-by}
use Rattle.referee.proofs.single.lines_if.Goals as goal

pub returns-then-wanted : goal.returns-then-wanted
returns-then-wanted c =
    c.lines_by.ensures ∙ lines-by c.args.cells.now _ c.numbers.ensures ∙ rw c.if-wanted.true

pub returns : goal.returns
unfolding zeros
returns c = rw c.if-wanted.false
