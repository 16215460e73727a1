-- `line::bits::places_of` meets its contract: after j turns the set bits below j are kept. Assumes nothing.
use mathlib.Core.Path.{◌≡◌}
use Rattle.rules.specs.Tools.{gather}
use Rattle.rules.specs.Bit.{bit}
use Rattle.line.specs.Lists.{bit_item}
use Rattle.line.proofs.bits.places_of.Given as goal

abbrev pub invariant-loop-j : goal.invariant-loop-j
invariant-loop-j l = l.places ≡ gather l.j (bit_item (bit l.m))
