-- `second::list::point_rows` meets its contract: after d turns the lines of the first d directions are done. Assumes nothing.
use mathlib.Core.Path.{◌≡◌}
use Rattle.rules.specs.Tools.{gather}
use Rattle.rules.specs.Grid.{rows_in}
use Rattle.second.proofs.list.point_rows.Given as goal

abbrev pub invariant-loop-d : goal.invariant-loop-d
invariant-loop-d l = l.list ≡ gather l.d (rows_in l.player l.kind l.board l.code)
