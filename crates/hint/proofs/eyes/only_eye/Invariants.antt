-- `hint::eyes::only_eye` meets its contract: the Swords passed have one eye, the first's. Assumes nothing.
use Prim.Native.Nat.{◌-◌}
use Rattle.grid.specs.Lines.{cells_of}
use Rattle.hint.proofs.Gaps.{Agree}
use Rattle.hint.proofs.eyes.only_eye.Given as goal

abbrev pub invariant-loop-sword : goal.invariant-loop-sword
invariant-loop-sword l = Agree l.side (cells_of l.lines) l.code l.first l.sword

abbrev pub decreases-loop-sword : goal.decreases-loop-sword
decreases-loop-sword l = 64 - l.sword
