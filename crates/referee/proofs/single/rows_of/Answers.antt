-- `referee::single::rows_of` meets its contract. Assumes nothing.
use Prim.Native.Nat.{◌<◌}
use native.Mathlib.Omega.{arith}
use Rattle.rules.specs.declared.Player.TheVariants.{Black, White}
use Rattle.referee.proofs.RowsSeen.{rows_seen, masks-four}
use Rattle.referee.proofs.single.rows_of.Goals as goal

pub returns : goal.returns
returns c =
    let cells = c.args.cells.now in
    let p = c.args.code in
    let hp : p < 225 = omega arith in
    rows_seen Black cells _ _ p hp
    (masks-four Black cells p c.read_along-v.ensures.0 c.read_along-h.ensures.0 c.read_along-a.ensures.0
    c.read_along-d.ensures.0)
    (masks-four White cells p c.read_along-v.ensures.1 c.read_along-h.ensures.1 c.read_along-a.ensures.1
    c.read_along-d.ensures.1)
    (rw c.get.ensures.value at c.rows_near.ensures)
