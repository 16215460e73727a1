-- `text::diagram::row_in` meets its contract: x cells are put, and the bytes that are left have the others. Assumes nothing.
use mathlib.Core.Path.{◌≡◌}
use Prim.Native.Nat.{◌+◌, ◌≤◌}
use lib.ListN.{length, drop}
use Rattle.text.specs.Bytes.{dense}
use Rattle.text.specs.Rows.{row_put}
use Rattle.text.proofs.diagram.row_in.Given as goal

abbrev pub invariant-loop-b : goal.invariant-loop-b
invariant-loop-b l = (l.x ≤ l.b-index) × (length (dense l.s) ≡ l.x + length (dense (drop l.b-index l.s)))
    × (row_put l.k 0 (dense l.s) l.initial.cells ≡ row_put l.k l.x (dense (drop l.b-index l.s)) l.cells)
