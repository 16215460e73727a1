-- `text::bytes::leading_space` meets its contract: the bytes below i are white space. Assumes nothing.
use mathlib.Core.Path.{◌≡◌}
use Prim.Native.Nat.{◌+◌}
use lib.ListN.{drop}
use Rattle.text.specs.Bytes.{leading}
use Rattle.text.proofs.bytes.leading_space.Given as goal

abbrev pub invariant-loop-i : goal.invariant-loop-i
invariant-loop-i l = leading l.s ≡ l.i + leading (drop l.i l.s)
