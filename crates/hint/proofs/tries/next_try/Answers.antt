-- `hint::tries::next_try` meets its contract. Assumes nothing.
use Prim.Native.Nat.{◌+◌, ◌-◌, ◌%◌}
use native.Mathlib.Omega.{arith}
use Rattle.hint.proofs.Marks.{none-to, not_back}
use Rattle.hint.proofs.tries.next_try.Goals as goal

pub returns-then-next-lt15 : goal.returns-then-next-lt15
returns-then-next-lt15 c =
    let i = c.loop-p.invariant in
    let p = c.loop-p.p in
    let m = c.args.tries.now in
    let l = c.args.lines.now in
    let h = c.loop-p-test.true in
    let v = c.empty_cells.ensures in
    let e = c.next_start-next.ensures in
    let g = not_back m l p h v e in
    record {
      le = omega (arith, c.if-next-lt15.true);
      ge = λ _. omega (arith, i.0, g);
      none = none-to m l p h v e c.args.from (p - p % 15 + c.next_start-next.result) i.1 (omega arith) (omega arith);
    }

pub loop-p-preserved : goal.loop-p-preserved
loop-p-preserved c =
    let p = c.loop-p.p in
    let i = c.loop-p.invariant in (
      omega (arith, i.0),
      none-to c.args.tries.now c.args.lines.now p c.loop-p-test.true c.empty_cells.ensures
          c.next_start-next.ensures c.args.from (p - p % 15 + 15) i.1 (omega arith)
          (omega (arith, c.if-next-lt15.false)),
    )
