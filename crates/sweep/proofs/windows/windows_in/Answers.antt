-- `sweep::windows::windows_in` meets its contract, mask by mask. Assumes nothing.
use native.Mathlib.Omega.{arith}
use Rattle.lent.specs.Lists.{zeros}
use Rattle.sweep.proofs.Marks.{rows_start, rows_more, rows_end}
use Rattle.sweep.proofs.windows.windows_in.Goals as goal

pub loop-i-init : goal.loop-i-init
unfolding zeros
loop-i-init c = record { twos = rows_start _; threes = rows_start _; fours = rows_start _ }

pub loop-i-preserved : goal.loop-i-preserved
loop-i-preserved c =
    let l = c.loop-i in
    let w = l.invariant in
    let e = c.scores_at-s.ensures in
    record {
      twos = rows_more _ l.i (omega arith) w.twos e.twos;
      threes = rows_more _ l.i (omega arith) w.threes e.threes;
      fours = rows_more _ l.i (omega arith) w.fours e.fours;
    }

pub returns : goal.returns
returns c =
    let l = c.loop-i in
    let w = l.invariant in
    record {
      twos = rows_end _ l.i (omega arith) (omega arith) w.twos;
      threes = rows_end _ l.i (omega arith) (omega arith) w.threes;
      fours = rows_end _ l.i (omega arith) (omega arith) w.fours;
    }
