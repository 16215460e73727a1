-- `text::diagram::diagram_in` meets its contract: k lines are read, and the rest of the text has the others. Assumes nothing.
use mathlib.Core.Path.{◌≡◌}
use Prim.Native.Nat.{◌+◌}
use lib.ListN.{length, drop}
use Rattle.text.specs.Bytes.{newline, parts}
use Rattle.text.proofs.Places.{left_in}
use Rattle.text.proofs.Lined.{Lined}
use Rattle.text.proofs.diagram.diagram_in.Given as goal

abbrev pub invariant-lines : goal.invariant-lines
invariant-lines l =
    (drop l.k (parts newline l.t) ≡ left_in newline l.rest)
    × (length (parts newline l.t) ≡ l.k + length (left_in newline l.rest))
    × Lined (parts newline l.t) l.cells l.full l.k

abbrev pub decreases-lines : goal.decreases-lines
decreases-lines l = length (left_in newline l.rest)
