-- `board::board::Board::stone` meets its contract: the cell that the lines show. Assumes nothing.
use mathlib.Core.Path.{◌∙◌, ap}
use Prim.Native.Nat.{ℕ}
use lib.Dec.{eqb}
use Rattle.rules.specs.Answers.{answer, stone_there}
use Rattle.rules.proofs.Refusals.{unrefused}
use Rattle.grid.proofs.Lines.{cell-on}
use Rattle.board.proofs.Given.{stone_given, at_in}
use Rattle.board.proofs.board.Board.stone.Goals as goal

pub returns : goal.returns
unfolding answer
returns c =
    let a = c.args in
    let z = unrefused _ c.refusal_at.ensures c.in_ok-refusal_at.was in
    let e = c.cell_on.ensures ∙ cell-on a.self.lines a.code (at_in a.self a.code z).1 in
    rw (z, c.ok.ensures.value, c.try_from.ensures, e, stone_given)
