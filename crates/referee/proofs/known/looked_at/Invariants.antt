-- `referee::known::looked_at` meets its contract. Assumes nothing.
use Prim.Native.Nat.{◌-◌, ◌<◌}
use lib.Dec.{T}
use Rattle.rules.specs.Grid.{starts_of, numbered}
use Rattle.grid.specs.Lines.{cells_of}
use Rattle.referee.specs.Referee.{KnownOf}
use Rattle.referee.proofs.known.looked_at.Given as goal

abbrev pub invariant-loop-three : goal.invariant-loop-three
invariant-loop-three l = KnownOf (cells_of l.lines) l.code l.known.sure l.known.left × (l.three < 64 → T (numbered (starts_of l.threes) l.three))

abbrev pub decreases-loop-three : goal.decreases-loop-three
decreases-loop-three l = 64 - l.three
