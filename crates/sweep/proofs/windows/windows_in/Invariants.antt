-- `sweep::windows::windows_in` meets its contract, mask by mask. Assumes nothing.
use Rattle.sweep.specs.Marks.{row_mask, is_marked, Scored}
use Rattle.cells.proofs.Filled.{filled}
use Rattle.sweep.proofs.windows.windows_in.Given as goal

abbrev pub invariant-loop-i : goal.invariant-loop-i
invariant-loop-i l = Scored (λ f. filled 26 (row_mask f) l.i) (is_marked l.blacks) (is_marked l.whites) l.d l.twos l.threes l.fours
