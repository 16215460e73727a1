-- `hint::tries::tries_of` meets its contract. Assumes nothing.
use Rattle.grid.specs.Lines.{cells_of}
use Rattle.hint.proofs.Marks.{Keyed}
use Rattle.hint.proofs.tries.tries_of.Given as goal

abbrev pub invariant-loop-key : goal.invariant-loop-key
invariant-loop-key l = Keyed l.side (cells_of l.lines) l.key l.tries
