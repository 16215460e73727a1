-- `referee::single::read_along` meets its contract: the two halves have the stones of the cells that were read, the last ones of the line.
-- Assumes nothing.
use mathlib.Core.Path.{refl}
use Prim.Native.Nat.{◌-◌}
use native.Mathlib.Omega.{arith}
use lib.ListN.{get_or}
use Rattle.referee.proofs.Backward.{back-le, read-at, read-start, read-on, read-end, room, step_room, halves-le, stands-lt}
use Rattle.referee.proofs.single.read_along.Goals as goal

pub overflow_sub-p : goal.overflow_sub-p
overflow_sub-p c =
    back-le c.args.d c.get-point.result c.requires.1 c.get-point.ensures.below c.cell_no.ensures c.step_in-step.ensures

pub loop-init : goal.loop-init
loop-init c =
    let a = c.args in
    read-at a.cells.now a.d c.get-point.result (omega arith)
    (read-start a.cells.now a.d c.get-point.result c.line_no.ensures c.line_size-size.ensures c.cell_no.ensures c.step_in-step.ensures)

pub overflow_sub-p-in-loop : goal.overflow_sub-p-in-loop
overflow_sub-p-in-loop c =
    step_room c.args.cells.now c.args.d c.get-point.result c.loop.invariant c.requires.1 c.get-point.ensures.below (let h = c.loop-test.true in omega arith)

pub overflow_mul-both : goal.overflow_mul-both
overflow_mul-both c =
    omega (arith, room c.args.cells.now c.args.d c.get-point.result c.loop.invariant)

pub bounds-cells-p : goal.bounds-cells-p
bounds-cells-p c =
    let h = c.loop-test.true in
    omega (
      arith,
      c.requires.0.long,
      stands-lt c.args.cells.now c.args.d c.get-point.result c.loop.invariant c.requires.1 c.get-point.ensures.below (omega arith),
    )

pub overflow_add-both : goal.overflow_add-both
overflow_add-both c =
    let v = get_or c.args.cells.now (c.loop.p - c.step_in-step.result) 0 in
    omega (arith, room c.args.cells.now c.args.d c.get-point.result c.loop.invariant, halves-le v c.in_halves.ensures)

pub loop-preserved : goal.loop-preserved
loop-preserved c =
    let a = c.args in
    let h = c.loop-test.true in
    read-at a.cells.now a.d c.get-point.result (omega arith)
    (read-on a.cells.now a.d c.get-point.result c.loop.invariant c.requires.1 c.get-point.ensures.below (omega arith) refl c.in_halves.ensures)

pub returns : goal.returns
returns c =
    let h = c.loop-test.false in
    rw (← c.get-point.ensures.value) (read-end c.args.cells.now c.args.d c.get-point.result c.loop.invariant (omega arith))
