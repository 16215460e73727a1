-- `sweep::windows::both` meets its contract. Assumes nothing.
use native.Mathlib.Omega.{arith}
use Rattle.sweep.specs.Marks.{pair_from}
use Rattle.sweep.proofs.Marks.{marks-row, row-and}
use Rattle.sweep.proofs.windows.both.Goals as goal

pub returns : goal.returns
unfolding pair_from
returns c =
    row-and _ _ c.args.i c.back.type_inv (marks-row _ c.requires.0.whole c.args.i (omega arith)) c.back.ensures
