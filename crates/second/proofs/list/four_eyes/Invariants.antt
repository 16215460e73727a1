-- `second::list::four_eyes` meets its contract: after d turns the lines of the first d directions are done. Assumes nothing.
use mathlib.Core.Path.{◌≡◌}
use Rattle.rules.specs.Tools.{gather}
use Rattle.rules.specs.Grid.{eyes_in}
use Rattle.second.proofs.list.four_eyes.Given as goal

abbrev pub invariant-loop-d : goal.invariant-loop-d
invariant-loop-d l = l.list ≡ gather l.d (eyes_in l.player l.board l.code)
