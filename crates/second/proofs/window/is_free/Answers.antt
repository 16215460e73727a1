-- `second::window::is_free` meets its contract: no stone of the other colour is counted. Assumes nothing.
use Rattle.rules.specs.Numbers.{opponent_of}
use Rattle.rules.specs.Point.{line_no}
use Rattle.rules.specs.Grid.{stone_at}
use Rattle.second.proofs.Counted.{count-free}
use Rattle.second.proofs.window.is_free.Goals as goal

pub returns : goal.returns
returns c =
    let a = c.args in
    rw (c.stones_in.ensures, c.opponent.ensures)
    (count-free (stone_at (opponent_of a.player) a.board.now a.d (line_no a.d a.code)) a.j)
