-- `referee::thin::remove_in` meets its contract: the stone is off the lines, and Black has one less. Assumes nothing.
use Rattle.referee.proofs.Trial.{stone-off, black-counted}
use Rattle.referee.proofs.thin.remove_in.Goals as goal

pub overflow_sub-b : goal.overflow_sub-b
overflow_sub-b c = black-counted c.args.code c.args.b.now c.requires

pub returns : goal.returns
returns c = stone-off c.args.code c.args.b.now c.requires c.remove_on.ensures
