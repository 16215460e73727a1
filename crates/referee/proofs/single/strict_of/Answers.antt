-- `referee::single::strict_of` meets its contract. Assumes nothing.
use mathlib.Core.Path.{sym, ◌∙◌}
use Prim.Native.Nat.{◌<◌}
use native.Mathlib.Omega.{arith}
use Rattle.rules.proofs.Verdicts.{quiet_none}
use Rattle.referee.proofs.RowsSeen.{may-is}
use Rattle.referee.proofs.Asked.{byte-taken}
use Rattle.referee.proofs.single.strict_of.Goals as goal

pub returns-then-cells-p-ne0 : goal.returns-then-cells-p-ne0
returns-then-cells-p-ne0 c =
    let hp : c.args.code < 225 = omega arith in
    byte-taken c.args.cells.now c.args.code c.requires hp (rw c.get-p.ensures.value at c.if-cells-p-ne0.true)

pub asked_of-requires : goal.asked_of-requires
asked_of-requires c = (c.requires, rw c.get-p.ensures.value at c.if-cells-p-ne0.false, c.rows_of-rows.ensures)

pub returns : goal.returns
returns c =
    let cells = c.args.cells.now in
    let p = c.args.code in
    let hp : p < 225 = omega arith in
    quiet_none cells p c.requires.long hp (sym (may-is cells p c.rows_of-rows.ensures c.may_forbid.ensures) ∙ c.if-may_forbid.false)
