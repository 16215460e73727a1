-- `sweep::marking::back` meets its contract: a step back. Assumes nothing.
use native.Mathlib.Omega.{arith}
use Rattle.sweep.proofs.Steps.{says_back}
use Rattle.sweep.proofs.marking.back.Goals as goal

pub returns : goal.returns
returns c =
    rw (c.down.ensures, c.up.ensures, c.aside.ensures)
    (says_back _ c.requires.0 c.args.d c.args.k c.args.i c.requires.1 (omega arith) c.requires.3)
