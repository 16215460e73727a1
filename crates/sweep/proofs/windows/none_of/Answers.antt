-- `sweep::windows::none_of` meets its contract. Assumes nothing.
use Rattle.masks.proofs.Windows.{below}
use Rattle.sweep.proofs.Marks.{says-as, says-or, says-not}
use Rattle.sweep.proofs.Starts.{free-here}
use Rattle.sweep.proofs.windows.none_of.Goals as goal

pub returns : goal.returns
returns c =
    let a0 = c.ahead.ensures in
    let a1 = c.ahead-2.ensures in
    let a2 = c.ahead-3.ensures in
    let a3 = c.ahead-4.ensures in
    says-as _ _ (λ p h. free-here _ _ p)
    (says-not (search below depth 9) (says-or (says-or (says-or (says-or a0 a1) a2) a3) c.ahead-5.ensures))
