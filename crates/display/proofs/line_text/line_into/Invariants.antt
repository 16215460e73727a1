-- `display::line_text::line_into` meets its contract: after i turns the first i cells are written. Assumes nothing.
use mathlib.Core.Path.{◌≡◌}
use mathlib.Core.List.{◌++◌}
use Rattle.rules.specs.Tools.{gather}
use Rattle.display.specs.Texts.{stepped, cell_text}
use Rattle.display.proofs.line_text.line_into.Given as goal

abbrev pub invariant-loop-i : goal.invariant-loop-i
invariant-loop-i g l = l.text ≡ l.initial.text ++ gather l.i (cell_text (stepped l.cells l.first l.step))
