-- `sweep::points::sweep_board` meets its contract, mask by mask. The places are named by what has just been called: w the whole board, v,
-- h, a and d the rows of a direction, t the loop's test, o and f the Overlinings and the Swords through the points. Assumes nothing.
use mathlib.Core.Path.{◌≡◌}
use Rattle.sweep.specs.Marks.{row_mask, asked_at, is_marked, AllRows}
use Rattle.cells.proofs.Filled.{filled}
use Rattle.sweep.proofs.points.sweep_board.Given as goal

abbrev pub invariant-loop-i : goal.invariant-loop-i
invariant-loop-i l = (l.asked ≡ filled 26 (row_mask (asked_at l.cells)) l.i)
    × AllRows (is_marked l.blacks) (is_marked l.whites) 0 l.v.twos l.v.swords l.v.overs
    × AllRows (is_marked l.blacks) (is_marked l.whites) 1 l.h.twos l.h.swords l.h.overs
    × AllRows (is_marked l.blacks) (is_marked l.whites) 2 l.a.twos l.a.swords l.a.overs
    × AllRows (is_marked l.blacks) (is_marked l.whites) 3 l.d.twos l.d.swords l.d.overs
