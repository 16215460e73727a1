-- `lists::row_bytes::keep_rows` meets its contract: after j turns the starts below j are looked at. Assumes nothing.
use mathlib.Core.Path.{◌≡◌}
use mathlib.Core.List.{◌++◌}
use Rattle.rules.specs.Tools.{gather}
use Rattle.rules.specs.Bit.{bit}
use Rattle.lists.specs.Lists.{row_item}
use Rattle.lists.proofs.row_bytes.keep_rows.Given as goal

abbrev pub invariant-loop-j : goal.invariant-loop-j
invariant-loop-j g l = l.list ≡ l.initial.list ++ gather l.j (row_item l.key (bit l.my) (bit l.op) l.kind (bit l.starts))
