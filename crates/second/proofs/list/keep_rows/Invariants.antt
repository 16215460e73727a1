-- `second::list::keep_rows` meets its contract: after j turns the starts below j are looked at. Assumes nothing.
use mathlib.Core.Path.{◌≡◌}
use mathlib.Core.List.{◌++◌}
use Rattle.rules.specs.Tools.{gather}
use Rattle.second.proofs.Gathered.{row_item}
use Rattle.second.proofs.list.keep_rows.Given as goal

abbrev pub invariant-loop-j : goal.invariant-loop-j
invariant-loop-j g l = l.list ≡ l.initial.list ++ gather l.j (row_item l.player l.kind l.board l.code l.d l.only_through)
