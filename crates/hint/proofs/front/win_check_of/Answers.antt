-- `hint::front::win_check_of` meets its contract. Assumes nothing.
use Rattle.rules.proofs.Refusals.{unrefused}
use Rattle.hint.proofs.Fronts.{check-cells}
use Rattle.hint.proofs.front.win_check_of.Goals as goal

pub checked-requires : goal.checked-requires
checked-requires c =
    let a = c.args in
    check-cells a.cells.now a.colour a.list.now (unrefused _ c.check_refusal.ensures c.in_ok-check_refusal.was)
