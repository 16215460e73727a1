-- `text::line_text::line_in` meets its contract: so many cells are read, and the bytes that are left have the others. Assumes nothing.
use mathlib.Core.Path.{◌≡◌}
use Prim.Native.Nat.{◌≤◌}
use lib.ListN.{length, drop}
use Rattle.text.specs.Bytes.{small_o, small_x, dense}
use Rattle.text.proofs.Marks.{marked_to}
use Rattle.text.proofs.line_text.line_in.Given as goal

abbrev pub invariant-loop-b : goal.invariant-loop-b
invariant-loop-b l = (l.size ≤ 15) × (l.size ≤ length (dense l.s)) × (dense (drop l.b-index l.s) ≡ drop l.size (dense l.s))
    × (l.blacks ≡ marked_to l.size (dense l.s) small_o) × (l.whites ≡ marked_to l.size (dense l.s) small_x)
