-- `records::hex` meets its contract: after k turns v is what the first k digits spell. Assumes nothing.
use mathlib.Core.Path.{◌≡◌}
use Rattle.records.specs.Records.{hex_spelled}
use Rattle.records.proofs.hex.Given as goal

abbrev pub invariant-loop-k : goal.invariant-loop-k
invariant-loop-k l = l.v ≡ hex_spelled l.s l.at l.k
