-- `referee::ruling::ruled_of` meets its contract. Assumes nothing.
use mathlib.Core.Path.{ap, sym, ◌∙◌}
use Prim.Native.Nat.{◌<◌}
use native.Mathlib.Omega.{arith}
use Rattle.rules.specs.Grid.{is_empty}
use Rattle.rules.proofs.Logic.{along}
use Rattle.rules.proofs.Starts.{twos-are}
use Rattle.rules.proofs.Verdicts.{quiet_none}
use Rattle.referee.proofs.RowsSeen.{strict-is, triable, may-is}
use Rattle.referee.proofs.Asked.{byte_full, byte-taken, lines-of-sound, lines-of-cells, lines-wanted}
use Rattle.referee.proofs.Rulings.{taken-untried, quiet-untried, free-tried, handed, ruled}
use Rattle.referee.proofs.ruling.ruled_of.Goals as goal

pub returns-then-cells-p-ne0 : goal.returns-then-cells-p-ne0
returns-then-cells-p-ne0 c =
    let u = c.untried.ensures in
    let cells = c.args.cells.now in
    let p = c.args.code in
    let hp : p < 225 = omega arith in
    let taken = rw c.get-p.ensures.value at c.if-cells-p-ne0.true in
    ruled cells p (taken-untried cells p (byte_full cells p c.requires hp taken))
    (u.0 ∙ byte-taken cells p c.requires hp taken) u.1

pub strict_by-verdict-requires : goal.strict_by-verdict-requires
strict_by-verdict-requires c =
    let cells = c.args.cells.now in
    let p = c.args.code in
    let hp : p < 225 = omega arith in
    let free = rw c.get-p.ensures.value at c.if-cells-p-ne0.false in
    λ t.
    let l = lines-wanted c.more_than_one-tried.result cells c.lines_if-lines.ensures (along (sym c.more_than_one-tried.ensures) t) in
    triable cells p c.rows_of-rows.ensures c.lines_if-lines.result (lines-of-sound cells p c.requires hp l)
    (lines-of-cells cells p c.requires hp l) free

pub returns-then-may_forbid : goal.returns-then-may_forbid
returns-then-may_forbid c =
    let cells = c.args.cells.now in
    let p = c.args.code in
    let hp : p < 225 = omega arith in
    let free = rw c.get-p.ensures.value at c.if-cells-p-ne0.false in
    let two = twos-are cells p c.rows_of-rows.ensures.twos c.more_than_one-tried.ensures in
    let lines = c.strict_by-verdict.ensures.1 ∙ c.lines_if-lines.ensures in
    ruled cells p (free-tried cells p free two)
    (c.strict_by-verdict.ensures.0
    ∙ strict-is cells p c.rows_of-rows.ensures c.lines_if-lines.result c.requires.long hp (ap is_empty free)
    (λ t. lines-of-cells cells p c.requires hp (lines-wanted c.more_than_one-tried.result cells c.lines_if-lines.ensures (along (sym two) t))))
    (c.handed_on.ensures ∙ handed cells c.more_than_one-tried.result lines)

pub returns : goal.returns
returns c =
    let u = c.untried-2.ensures in
    let cells = c.args.cells.now in
    let p = c.args.code in
    let hp : p < 225 = omega arith in
    let quiet = sym (may-is cells p c.rows_of-rows.ensures c.may_forbid.ensures) ∙ c.if-may_forbid.false in
    ruled cells p (quiet-untried cells p quiet) (u.0 ∙ quiet_none cells p c.requires.long hp quiet) u.1
