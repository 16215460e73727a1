-- `hint::fives::has_row` meets its contract: the lines passed have no such row. Assumes nothing.
use native.Mathlib.Omega.{arith}
use Rattle.grid.specs.Lines.{cells_of}
use Rattle.hint.specs.Seen.{row_on_key}
use Rattle.hint.proofs.Bounded.{made}
use Rattle.hint.proofs.Lined.{any_none, any-more, any_found, row-there, row-none}
use Rattle.hint.proofs.fives.has_row.Goals as goal

pub loop-key-init : goal.loop-key-init
loop-key-init c = any_none _

pub returns-then-starts_on-ne0 : goal.returns-then-starts_on-ne0
returns-then-starts_on-ne0 c =
    let told = rw (made 72 c.loop-key.key c.new.ensures c.unwrap.ensures) at c.starts_on.ensures in
    let C = cells_of c.args.lines.now in
    any_found 72 (row_on_key c.args.player c.args.kind C) c.loop-key.key (omega arith)
    (row-there c.args.player C c.args.kind c.loop-key.key told c.if-starts_on-ne0.true)

pub loop-key-preserved : goal.loop-key-preserved
loop-key-preserved c =
    let told = rw (made 72 c.loop-key.key c.new.ensures c.unwrap.ensures) at c.starts_on.ensures in
    let C = cells_of c.args.lines.now in
    any-more c.loop-key.key (row_on_key c.args.player c.args.kind C) c.loop-key.invariant
    (row-none c.args.player C c.args.kind c.loop-key.key told c.if-starts_on-ne0.false)
