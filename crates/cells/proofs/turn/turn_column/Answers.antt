-- `cells::turn::turn_column` meets its contract: the points below q are filled in, and the next one's cell is known. Assumes nothing.
use mathlib.Core.Path.{ap, ◌∙◌}
use mathlib.Core.List.{List}
use Prim.Native.Nat.{ℕ, ◌-◌, ◌*◌, ◌%◌, ◌≤◌, ◌<◌}
use native.Mathlib.Omega.{arith}
use lib.ListN.{get_or, set}
use Rattle.cells.proofs.Stepped.{turn_in, turn-next, turn_near, turned_more}
use Rattle.cells.proofs.turn.turn_column.Goals as goal

pub overflow_add-at : goal.overflow_add-at
overflow_add-at c =
    let h = c.requires.0 in
    record { fits = omega (arith, c.turned-at.ensures, turn_in (15 * c.args.x) (omega (arith, h)) c.args.back) }

pub bounds-from-at : goal.bounds-from-at
bounds-from-at c =
    let on = c.loop-q-test.true in
    let hq : c.loop-q.q < 225 = omega (arith, c.requires.0, on) in
    let e = c.loop-q.invariant.1 on in
    let b = turn_in c.loop-q.q hq c.args.back in
    omega (arith, e, b)

pub overflow_add-at-in-loop-q : goal.overflow_add-at-in-loop-q
overflow_add-at-in-loop-q c =
    let on = c.loop-q-test.true in
    let hq : c.loop-q.q < 225 = omega (arith, c.requires.0, on) in
    let e = c.loop-q.invariant.1 on in
    let b = turn_in c.loop-q.q hq c.args.back in
    let n = c.turned-next.ensures in
    record { fits = omega (arith, e, b, n, turn_in 1 (omega arith) c.args.back) }

pub overflow_sub-at : goal.overflow_sub-at
overflow_sub-at c =
    let on = c.loop-q-test.true in
    let hq : c.loop-q.q < 225 = omega (arith, c.requires.0, on) in
    let e = c.loop-q.invariant.1 on in
    let b = turn_in c.loop-q.q hq c.args.back in
    omega (arith, e, c.turned-here.ensures, c.turned-next.ensures, turn_near c.args.back)

pub loop-q-preserved : goal.loop-q-preserved
loop-q-preserved c =
    let on = c.loop-q-test.true in
    let hq : c.loop-q.q < 225 = omega (arith, c.requires.0, on) in
    let e = c.loop-q.invariant.1 on in
    let b = turn_in c.loop-q.q hq c.args.back in
    let from = c.args.from.now in
    let back = c.args.back in
    let q = c.loop-q.q in
    let at = c.loop-q.at in
    let low : 15 * c.args.x ≤ q = omega (arith, c.loop-q.auto) in (
      ap (λ (t : List ℕ). set t q (get_or from (at - 15) 0)) c.loop-q.invariant.0 ∙ turned_more back from q (at - 15) hq (omega (arith, e)),
      λ h.
          let column : q % 15 < 14 = omega (arith, low, h) in
          omega (arith, e, turn-next q hq column back, c.turned-here.ensures, c.turned-next.ensures),
    )
