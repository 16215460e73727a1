-- `hint::front::checked` meets its contract. Assumes nothing.
use mathlib.Core.Path.{ap, ◌∙◌}
use mathlib.Core.Bool.{◌&&◌, not}
use mathlib.Core.List.{List}
use Prim.Native.Nat.{ℕ}
use Rattle.grid.specs.Lines.{cells_of}
use Rattle.rules.specs.Numbers.{opponent_of}
use Rattle.rules.specs.Tools.{any_below}
use Rattle.hint.specs.Hint.{goes_on, completes, reaches_end}
use Rattle.hint.proofs.Checked.{shut_none, open-quiet, open-checked}
use Rattle.hint.proofs.Fronts.{lines-sound, lines-cells}
use Rattle.hint.proofs.front.checked.Goals as goal

pub is_open-requires : goal.is_open-requires
is_open-requires c =
    lines-sound c.args.cells.now c.requires c.lines_of-lines.ensures

pub returns-else-is_open : goal.returns-else-is_open
returns-else-is_open c =
    let a = c.args in
    c.if-is_open.false
    ∙ shut_none a.side a.cells.now
    (c.is_open.ensures ∙ ap (λ (C : List ℕ). goes_on C && not (any_below 225 (completes (opponent_of a.side) C)))
    (lines-cells a.cells.now c.requires c.lines_of-lines.ensures))
    c.if-is_open.false a.list.now

pub check_on-requires : goal.check_on-requires
check_on-requires c =
    let a = c.args in (
      lines-sound a.cells.now c.requires c.lines_of-lines.ensures,
      open-quiet a.side (cells_of c.lines_of-lines.result) c.is_open.ensures c.if-is_open.true,
    )

pub returns-then-is_open : goal.returns-then-is_open
returns-then-is_open c =
    let a = c.args in
    let same = lines-cells a.cells.now c.requires c.lines_of-lines.ensures in
    open-checked a.side a.cells.now
    (c.is_open.ensures ∙ ap (λ (C : List ℕ). goes_on C && not (any_below 225 (completes (opponent_of a.side) C))) same)
    c.if-is_open.true a.list.now (c.check_on.ensures ∙ ap (λ (C : List ℕ). reaches_end a.side C a.list.now) same)
