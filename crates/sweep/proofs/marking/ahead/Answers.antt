-- `sweep::marking::ahead` meets its contract: a step on. Assumes nothing.
use native.Mathlib.Omega.{arith}
use Rattle.sweep.proofs.Steps.{says-ahead}
use Rattle.sweep.proofs.marking.ahead.Goals as goal

pub returns : goal.returns
returns c =
    rw (c.up.ensures, c.down.ensures, c.aside.ensures)
    (says-ahead _ c.requires.0 c.args.d c.args.k c.args.i c.requires.1 (omega arith) c.requires.3)
