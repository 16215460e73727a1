-- `hint::tries::tries_after` meets its contract. Assumes nothing.
use Prim.Native.Nat.{ℕ, ◌<◌}
use Rattle.rules.specs.Point.{line_no}
use Rattle.grid.specs.Lines.{cells_of}
use Rattle.hint.specs.Seen.{Kept, MarkedLine}
use Rattle.hint.proofs.tries.tries_after.Given as goal

abbrev pub invariant-loop-d : goal.invariant-loop-d
invariant-loop-d l = Kept l.fn.tries l.next
    × ((d : ℕ) → d < l.d → MarkedLine l.side (cells_of l.lines) d (line_no d l.code) l.next)
