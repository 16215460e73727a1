-- `hint::tries::mark_line` meets its contract. Assumes nothing.
use mathlib.Core.Path.{ap, ◌∙◌}
use Prim.Native.Nat.{ℕ}
use Rattle.rules.specs.Bit.{bit}
use Rattle.rules.proofs.Bits.{bit-none}
use Rattle.rules.proofs.Logic.{along}
use Rattle.hint.proofs.Marks.{kept_same, line_marked}
use Rattle.hint.proofs.tries.mark_line.Goals as goal

pub returns-then-cells-ne0 : goal.returns-then-cells-ne0
returns-then-cells-ne0 c =
    let a = c.args in (
      c.mark_cells.ensures.0,
      rw (← c.get-key.ensures.value)
          (line_marked a.side a.lines.now c.get-key.result c.requires c.get-key.ensures.below c.hot_cells-cells.ensures _
          c.mark_cells.ensures.1),
    )

pub returns-else-cells-ne0 : goal.returns-else-cells-ne0
returns-else-cells-ne0 c =
    let a = c.args in (
      kept_same _,
      rw (← c.get-key.ensures.value)
          (line_marked a.side a.lines.now c.get-key.result c.requires c.get-key.ensures.below c.hot_cells-cells.ensures _
          (λ j h t l. absurd (along (ap (λ (v : ℕ). bit v j) c.if-cells-ne0.false ∙ bit-none j) t))),
    )
