-- `cells::build::put_codes` meets its contract: what is left to put, put on the cells as they are, gives the whole. Assumes nothing.
use mathlib.Core.Path.{ap, ap₂, sym, ◌∙◌}
use mathlib.Core.List.{List}
use Prim.Native.Nat.{ℕ, ◌+◌}
use native.Mathlib.Omega.{arith}
use lib.ListN.{get_or, set, drop}
use Rattle.rules.specs.Grid.{play}
use Rattle.rules.specs.declared.Player.{Player}
use Rattle.cells.specs.Cells.{puts}
use Rattle.cells.proofs.Given.{puts-more, puts-end}
use Rattle.cells.proofs.build.put_codes.Goals as goal

pub loop-code-preserved : goal.loop-code-preserved
loop-code-preserved c =
    let a = c.args in
    let i = c.loop-code.code-index in
    ap₂ (λ (r : Player) (l : List ℕ). play (puts a.alternate r (drop (i + 1) a.codes.now)) l) c.next_player-who.ensures
    (c.set_value.ensures ∙ ap (set c.loop-code.cells (get_or a.codes.now i 0)) c.number.ensures)
    ∙ sym (puts-more a.alternate c.loop-code.who a.codes.now c.loop-code.cells i c.loop-code-test.true) ∙ c.loop-code.invariant

pub returns : goal.returns
returns c =
    let a = c.args in
    sym (puts-end a.alternate c.loop-code.who a.codes.now c.loop-code.cells c.loop-code.code-index (omega (arith, c.loop-code-test.false)))
    ∙ c.loop-code.invariant
