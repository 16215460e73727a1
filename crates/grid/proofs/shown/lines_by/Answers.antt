-- `grid::shown::lines_by` meets its contract: after i turns they are built of the first i cells. Assumes nothing.
use mathlib.Core.Path.{refl, ap, sym, ◌∙◌}
use Rattle.rules.specs.Numbers.{player_of, is_colour}
use Rattle.lent.specs.Lists.{zeros}
use Rattle.grid.specs.Lines.{built_by}
use Rattle.grid.proofs.Built.{stone-more, none_more}
use Rattle.grid.proofs.shown.lines_by.Goals as goal
use Rattle.grid.proofs.shown.lines_by.Goals.{then-is_colour, else-is_colour}

pub loop-i-init : goal.loop-i-init
unfolding zeros built_by
loop-i-init c = refl

pub loop-i-preserved : goal.loop-i-preserved
loop-i-preserved c =
    let a = c.args in
    let i = c.loop-i.i in
    let value = c.value_at-value.ensures in
    let asked = ap is_colour (sym value) ∙ sym c.is_colour.ensures in
    elim c.if-is_colour.branch [
      | then-is_colour w ↦
          w.lines-is ∙ w.add_by.ensures
          ∙ stone-more a.cells.now a.table.now i c.loop-i.invariant (asked ∙ w.if-is_colour.true) (w.or_white.ensures ∙ ap player_of value)
          refl
      | else-is_colour w ↦ w.lines-is ∙ none_more a.cells.now a.table.now i c.loop-i.invariant (asked ∙ w.if-is_colour.false)
    ]
