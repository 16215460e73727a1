-- `lists::row_bytes::all_rows` meets its contract: after as many turns the lines before are done. Assumes nothing.
use mathlib.Core.Path.{◌≡◌}
use Rattle.rules.specs.Tools.{gather}
use Rattle.rules.specs.Grid.{key_rows}
use Rattle.grid.specs.Lines.{cells_of}
use Rattle.lists.proofs.row_bytes.all_rows.Given as goal

abbrev pub invariant-loop-key : goal.invariant-loop-key
invariant-loop-key l = l.list ≡ gather l.key (key_rows l.player l.kind (cells_of l.lines))
