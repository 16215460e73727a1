-- `records::bytes::cells_of` meets its contract: the entries before i are those of the table. Assumes nothing.
use mathlib.Core.Path.{◌≡◌, sym}
use native.Mathlib.Omega.{arith}
use Rattle.records.specs.Bytes.{cell_in}
use Rattle.records.proofs.Laws.{filled-all}
use Rattle.records.proofs.bytes.cells_of.Goals as goal

pub returns : goal.returns
returns c =
    let e : c.loop-i.i ≡ 225 = omega arith in
    let f = rw e at c.loop-i.invariant in
    (sym f.whole, filled-all 225 (cell_in c.args.field.now) c.loop-i.cells f)
