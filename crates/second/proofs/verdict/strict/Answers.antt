-- `second::verdict::strict` meets its contract. Assumes nothing.
use mathlib.Core.Path.{refl}
use native.Mathlib.Omega.{arith}
use Rattle.second.proofs.Asked.{asked-taken}
use Rattle.second.proofs.verdict.strict.Goals as goal

pub returns-then-board-get-ne0 : goal.returns-then-board-get-ne0
returns-then-board-get-ne0 c =
    let a = c.args in
    (asked-taken a.board.now a.code c.requires (omega arith) (rw c.get.ensures.value at c.if-board-get-ne0.true), refl)
