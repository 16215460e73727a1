-- `display::line_text::cells_in` meets its contract: after i turns the first i cells are filled in. Assumes nothing.
use mathlib.Core.Path.{◌≡◌, ap, ◌∙◌}
use native.Mathlib.Omega.{arith}
use Rattle.rules.specs.Bit.{bit}
use Rattle.lent.specs.Lists.{zeros}
use Rattle.display.specs.Texts.{values_of}
use Rattle.cells.proofs.Filled.{filled, filled_none, filled_more, filled-all}
use Rattle.display.proofs.line_text.cells_in.Goals as goal

pub loop-i-init : goal.loop-i-init
unfolding zeros
loop-i-init c = filled_none 16 _

pub loop-i-preserved : goal.loop-i-preserved
loop-i-preserved c =
    let a = c.args in
    rw (c.loop-i.invariant, c.cell_value.ensures) (filled_more 16 (values_of (bit a.blacks) (bit a.whites)) c.loop-i.i (omega arith))

pub returns : goal.returns
returns c =
    let a = c.args in
    let f = values_of (bit a.blacks) (bit a.whites) in
    let e : c.loop-i.i ≡ 16 = omega arith in
    c.loop-i.invariant ∙ ap (filled 16 f) e ∙ filled-all 16 f
