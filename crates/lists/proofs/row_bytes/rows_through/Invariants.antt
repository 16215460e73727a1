-- `lists::row_bytes::rows_through` meets its contract: after as many turns the lines before are done. Assumes nothing.
use mathlib.Core.Path.{◌≡◌}
use Rattle.rules.specs.Tools.{gather}
use Rattle.rules.specs.Grid.{rows_in}
use Rattle.grid.specs.Lines.{cells_of}
use Rattle.lists.proofs.row_bytes.rows_through.Given as goal

abbrev pub invariant-loop-d : goal.invariant-loop-d
invariant-loop-d l = l.list ≡ gather l.d (rows_in l.player l.kind (cells_of l.lines) l.code)
