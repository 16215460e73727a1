-- `referee::front::forbidden_refusal` meets its contract. Assumes nothing.
use Rattle.rules.proofs.Refusals.{unrefused}
use Rattle.board.specs.Boards.{refusal_at}
use Rattle.referee.proofs.Ruled.{refused-taken}
use Rattle.referee.proofs.front.forbidden_refusal.Goals as goal

pub returns : goal.returns
returns c =
    let a = c.args in
    refused-taken a.board a.code (unrefused (refusal_at a.board a.code) c.refusal_at.ensures c.in_ok-refusal_at.was) c.cell_on.ensures c.unless.ensures
