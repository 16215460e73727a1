-- `referee::on_lines::may_try` meets its contract: refused, or the cell there is read. Assumes nothing.
use mathlib.Core.Path.{refl}
use Rattle.rules.specs.Answers.{answer}
use Rattle.rules.proofs.Refusals.{unrefused}
use Rattle.board.specs.Boards.{board_with, refusal_at}
use Rattle.board.proofs.Given.{at_in}
use Rattle.referee.proofs.Asked.{free-is}
use Rattle.referee.proofs.on_lines.may_try.Goals as goal

pub returns : goal.returns
unfolding answer
returns c =
    let a = c.args in
    let b = board_with a.lines.now a.blacks a.whites in
    let z = unrefused (refusal_at b a.code) c.refusal_at.ensures c.in_ok-refusal_at.was in
    let (_, hp) = at_in b a.code z in
    (rw (z, free-is a.lines.now a.code hp c.cell_on.ensures) refl, refl)
