-- `game::game::read_game` meets its contract: what is left to read, from the present board, gives the report of the whole. Assumes nothing.
use mathlib.Core.Path.{◌≡◌}
use Prim.Native.Nat.{suc}
use lib.ListN.{drop}
use Rattle.grid.specs.Lines.{cells_of, Sound}
use Rattle.game.specs.Game.{report_from, report_of}
use Rattle.game.proofs.game.read_game.Given as goal

abbrev pub invariant-loop-i : goal.invariant-loop-i
invariant-loop-i l = Sound l.lines
    × (report_from (suc l.i) l.player l.won (cells_of l.lines) (drop l.i l.moves) ≡ report_of l.moves)
