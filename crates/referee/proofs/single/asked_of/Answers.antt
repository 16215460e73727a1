-- `referee::single::asked_of` meets its contract. Assumes nothing.
use mathlib.Core.Path.{ap, sym, ◌∙◌}
use Prim.Native.Nat.{◌<◌}
use native.Mathlib.Omega.{arith}
use Rattle.rules.specs.Grid.{is_empty}
use Rattle.rules.proofs.Starts.{twos-are}
use Rattle.rules.proofs.Logic.{along}
use Rattle.referee.proofs.RowsSeen.{strict-is, triable}
use Rattle.referee.proofs.Asked.{lines-of-sound, lines-of-cells, lines-wanted}
use Rattle.referee.proofs.single.asked_of.Goals as goal

pub strict_by-requires : goal.strict_by-requires
strict_by-requires c =
    let cells = c.args.cells.now in
    let p = c.args.code in
    let hp : p < 225 = omega arith in
    λ t.
    let l = lines-wanted c.more_than_one.result cells c.lines_if-lines.ensures (along (sym c.more_than_one.ensures) t) in
    triable cells p c.requires.2 c.lines_if-lines.result (lines-of-sound cells p c.requires.0 hp l)
    (lines-of-cells cells p c.requires.0 hp l) c.requires.1

pub returns : goal.returns
returns c =
    let cells = c.args.cells.now in
    let p = c.args.code in
    let hp : p < 225 = omega arith in
    c.strict_by.ensures.0
    ∙ strict-is cells p c.requires.2 c.lines_if-lines.result c.requires.0.long hp (ap is_empty c.requires.1)
    (λ t. lines-of-cells cells p c.requires.0 hp (lines-wanted c.more_than_one.result cells c.lines_if-lines.ensures
    (along (sym (twos-are cells p c.requires.2.twos c.more_than_one.ensures)) t)))
