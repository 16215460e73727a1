-- `sweep::windows::rows_along` meets its contract, mask by mask. Assumes nothing.
use mathlib.Core.Path.{◌≡◌}
use Rattle.rules.specs.declared.RowKind.TheVariants.{Two, Overlining}
use Rattle.sweep.specs.Marks.{row_mask, marks, is_marked, Scored, row_from}
use Rattle.cells.proofs.Filled.{filled}
use Rattle.sweep.proofs.windows.rows_along.Given as goal

abbrev pub invariant-loop-i : goal.invariant-loop-i
invariant-loop-i l = (l.twos ≡ filled 26 (row_mask (row_from (is_marked l.blacks) (is_marked l.whites) Two l.d)) l.i)
    × (l.overs ≡ filled 26 (row_mask (row_from (is_marked l.blacks) (is_marked l.whites) Overlining l.d)) l.i)
    × Scored marks (is_marked l.blacks) (is_marked l.whites) l.d l.w.twos l.w.threes l.w.fours
