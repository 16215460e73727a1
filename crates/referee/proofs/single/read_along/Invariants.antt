-- `referee::single::read_along` meets its contract: the two halves have the stones of the cells that were read, the last ones of the line.
-- Assumes nothing.
use Prim.Native.Nat.{◌-◌}
use Rattle.referee.proofs.Backward.{Read}
use Rattle.referee.proofs.single.read_along.Given as goal

abbrev pub invariant-loop : goal.invariant-loop
invariant-loop l = Read l.cells l.d l.point l.size l.step l.p l.both (l.size - l.counter)
