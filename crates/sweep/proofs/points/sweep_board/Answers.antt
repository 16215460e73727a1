-- `sweep::points::sweep_board` meets its contract, mask by mask. The places are named by what has just been called: w the whole board, v,
-- h, a and d the rows of a direction, t the loop's test, o and f the Overlinings and the Swords through the points. Assumes nothing.
use native.Mathlib.Omega.{arith}
use Rattle.lent.specs.Lists.{zeros}
use Rattle.sweep.proofs.Marks.{as-marked, rows_start, rows_more, rows_end}
use Rattle.sweep.proofs.Board.{asked-row}
use Rattle.sweep.proofs.points.sweep_board.Goals as goal

pub rows_along-v-requires : goal.rows_along-v-requires
rows_along-v-requires c =
    (as-marked _ c.marks_of-blacks.ensures, as-marked _ c.marks_of-whites.ensures, c.whole-all.ensures, omega arith)

pub rows_along-h-requires : goal.rows_along-h-requires
rows_along-h-requires c =
    (as-marked _ c.marks_of-blacks.ensures, as-marked _ c.marks_of-whites.ensures, c.whole-all.ensures, omega arith)

pub rows_along-a-requires : goal.rows_along-a-requires
rows_along-a-requires c =
    (as-marked _ c.marks_of-blacks.ensures, as-marked _ c.marks_of-whites.ensures, c.whole-all.ensures, omega arith)

pub rows_along-d-requires : goal.rows_along-d-requires
rows_along-d-requires c =
    (as-marked _ c.marks_of-blacks.ensures, as-marked _ c.marks_of-whites.ensures, c.whole-all.ensures, omega arith)

pub loop-i-init : goal.loop-i-init
unfolding zeros
loop-i-init c =
    (rows_start _, c.rows_along-v.ensures, c.rows_along-h.ensures, c.rows_along-a.ensures, c.rows_along-d.ensures)

pub some_at-overline-requires : goal.some_at-overline-requires
some_at-overline-requires c =
    let (done, v, h, a, d) = c.loop-i.invariant in
    (as-marked _ v.overs, as-marked _ h.overs, as-marked _ a.overs, as-marked _ d.overs, omega arith, omega arith)

pub more_at-double_four-requires : goal.more_at-double_four-requires
more_at-double_four-requires c =
    let (done, v, h, a, d) = c.loop-i.invariant in
    (as-marked _ v.swords, as-marked _ h.swords, as-marked _ a.swords, as-marked _ d.swords, omega arith, omega arith)

pub more_at-double_two-requires : goal.more_at-double_two-requires
more_at-double_two-requires c =
    let (done, v, h, a, d) = c.loop-i.invariant in
    (as-marked _ v.twos, as-marked _ h.twos, as-marked _ a.twos, as-marked _ d.twos, omega arith, omega arith)

pub loop-i-preserved : goal.loop-i-preserved
loop-i-preserved c =
    let i = c.loop-i.i in
    let (done, v, h, a, d) = c.loop-i.invariant in (
      rows_more _ i (omega arith) done
          (asked-row c.args.cells.now c.marks_of-blacks.ensures c.marks_of-whites.ensures v h a d c.requires
          c.whole-all.ensures i (omega arith) c.some_at-overline.type_inv c.more_at-double_four.type_inv c.more_at-double_two.type_inv c.some_at-overline.ensures
          c.more_at-double_four.ensures c.more_at-double_two.ensures),
      v,
      h,
      a,
      d,
    )

pub returns : goal.returns
returns c = rows_end _ c.loop-i.i (omega arith) (omega arith) c.loop-i.invariant.0
