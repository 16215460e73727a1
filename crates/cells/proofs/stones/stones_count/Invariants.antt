-- `cells::stones::stones_count` meets its contract: it has the stones below i. Assumes nothing.
use mathlib.Core.Path.{◌≡◌}
use lib.Dec.{eqb}
use lib.ListN.{get_or}
use Rattle.rules.specs.Bit.{count_of}
use Rattle.cells.proofs.stones.stones_count.Given as goal

abbrev pub invariant-loop-i : goal.invariant-loop-i
invariant-loop-i l = l.n ≡ count_of l.i (λ p. eqb (get_or l.cells p 0) l.colour)
