-- `sweep::through::fifth` meets its contract. Assumes nothing.
use Rattle.sweep.proofs.Marks.{says_all, says-and}
use Rattle.sweep.proofs.through.fifth.Goals as goal

pub returns : goal.returns
returns c =
    let a = c.args in
    says-and (says_all a.five a.i c.all_if.ensures) c.back.ensures
