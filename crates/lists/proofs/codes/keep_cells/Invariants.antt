-- `lists::codes::keep_cells` meets its contract: after j turns the cells below j are looked at. Assumes nothing.
use mathlib.Core.Path.{◌≡◌}
use mathlib.Core.List.{◌++◌}
use Rattle.rules.specs.Tools.{gather}
use Rattle.rules.specs.Bit.{bit}
use Rattle.lists.specs.Lists.{cell_item}
use Rattle.lists.proofs.codes.keep_cells.Given as goal

abbrev pub invariant-loop-j : goal.invariant-loop-j
invariant-loop-j l = l.list ≡ l.initial.list ++ gather l.j (cell_item l.d l.i (bit l.cells))
