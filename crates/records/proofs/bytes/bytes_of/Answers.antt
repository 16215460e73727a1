-- `records::bytes::bytes_of` meets its contract: the entries before i are those of the table. Assumes nothing.
use mathlib.Core.Path.{◌≡◌, sym}
use native.Mathlib.Omega.{arith}
use Rattle.records.specs.Bytes.{spelled_at}
use Rattle.records.proofs.Laws.{filled-all}
use Rattle.records.proofs.bytes.bytes_of.Goals as goal

pub returns : goal.returns
returns c =
    let e : c.loop-i.i ≡ 4097 = omega arith in
    let f = rw e at c.loop-i.invariant in
    (sym f.whole, filled-all 4097 (spelled_at c.args.digits.now) c.loop-i.bytes f)
