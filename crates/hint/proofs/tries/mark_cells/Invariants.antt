-- `hint::tries::mark_cells` meets its contract. Assumes nothing.
use Rattle.rules.specs.Bit.{bit}
use Rattle.hint.specs.Seen.{Kept, MarkedCells}
use Rattle.hint.proofs.tries.mark_cells.Given as goal

abbrev pub invariant-loop-j : goal.invariant-loop-j
invariant-loop-j l = Kept l.initial.tries l.tries × MarkedCells l.key l.j (bit l.cells) l.tries
