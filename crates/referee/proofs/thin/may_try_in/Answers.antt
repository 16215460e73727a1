-- `referee::thin::may_try_in` meets its contract: it is what is told of the board's lines, and they are as they were. Assumes nothing.
use mathlib.Core.Path.{ap}
use mathlib.Core.List.{List}
use Prim.Native.Nat.{ℕ}
use Rattle.board.specs.Boards.{board_with}
use Rattle.referee.proofs.thin.may_try_in.Goals as goal

pub returns : goal.returns
returns c =
    let b = c.args.b.now in
    (c.may_try.ensures.0, ap (λ (l : List ℕ). board_with l b.blacks b.whites) c.may_try.ensures.1)
