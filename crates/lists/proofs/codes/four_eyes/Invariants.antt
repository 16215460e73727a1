-- `lists::codes::four_eyes` meets its contract: after as many turns the lines before are done. Assumes nothing.
use mathlib.Core.Path.{◌≡◌}
use Rattle.rules.specs.Tools.{gather}
use Rattle.rules.specs.Grid.{eyes_in}
use Rattle.grid.specs.Lines.{cells_of}
use Rattle.lists.proofs.codes.four_eyes.Given as goal

abbrev pub invariant-loop-d : goal.invariant-loop-d
invariant-loop-d l = l.list ≡ gather l.d (eyes_in l.player (cells_of l.lines) l.code)
