-- `sweep::windows::rows_along` meets its contract, mask by mask. Assumes nothing.
use native.Mathlib.Omega.{arith}
use Rattle.lent.specs.Lists.{zeros}
use Rattle.sweep.specs.Marks.{is_marked}
use Rattle.sweep.proofs.Marks.{as-marked, rows_start, rows_more, rows_end}
use Rattle.sweep.proofs.Starts.{two-row, overlining-row, sword-rows}
use borrow.Author.Rules.{rules}
use Rattle.sweep.proofs.windows.rows_along.Goals as goal

pub loop-i-init : goal.loop-i-init
unfolding zeros
loop-i-init c = (rows_start _, rows_start _, c.windows_in-w.ensures)

pub both-requires : goal.both-requires
both-requires c = (as-marked _ c.loop-i.invariant.2.twos, search rules, search rules, search rules)

pub both-requires-in-loop-i : goal.both-requires-in-loop-i
both-requires-in-loop-i c =
    (as-marked _ c.loop-i.invariant.2.fours, search rules, search rules, search rules)

pub loop-i-preserved : goal.loop-i-preserved
loop-i-preserved c =
    let b = is_marked c.args.blacks.now in
    let w = is_marked c.args.whites.now in
    let d = c.args.d in
    let i = c.loop-i.i in
    let (twos, overs, e) = c.loop-i.invariant in (
      rows_more _ i (omega arith) twos
          (two-row b w d c.requires.3 i e.twos c.both.ensures c.ahead.type_inv c.ahead.ensures),
      rows_more _ i (omega arith) overs (overlining-row b w d c.requires.3 i e.fours c.both-in-loop-i.ensures),
      e,
    )

pub returns : goal.returns
returns c =
    let i = c.loop-i.i in
    let (twos, overs, e) = c.loop-i.invariant in
    record {
      twos = rows_end _ i (omega arith) (omega arith) twos;
      swords = sword-rows _ _ c.args.d c.requires.3 e.threes;
      overs = rows_end _ i (omega arith) (omega arith) overs;
    }
