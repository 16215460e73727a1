-- `listing_cases::case_end` meets its contract and ends: a turn passes a line. Assumes nothing.
use Rattle.std.proofs.Common.{arith}
use Rattle.records.proofs.Laws.{place-from, next-less}
use Rattle.listing_cases.proofs.case_end.Goals as goal

pub loop-i-init : goal.loop-i-init
loop-i-init c =
    let a = c.args in
    omega (arith, c.requires, c.next_line-i.ensures, place-from a.cases.now a.at 10 (omega (arith, c.requires)))

pub loop-i-smaller : goal.loop-i-smaller
loop-i-smaller c =
    omega (arith, c.next_line-i-in-loop-i.ensures, next-less c.args.cases.now c.loop-i.i (omega arith))

pub loop-i-preserved : goal.loop-i-preserved
loop-i-preserved c =
    omega (
      arith,
      c.loop-i.invariant,
      c.next_line-i-in-loop-i.ensures,
      place-from c.args.cases.now c.loop-i.i 10
          (omega arith),
    )
