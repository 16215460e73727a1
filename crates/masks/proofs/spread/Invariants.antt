-- `masks::spread` meets its contract: after k turns the starts are spread over the cells below k. Assumes nothing.
use mathlib.Core.Path.{◌≡◌}
use Rattle.rules.specs.Bit.{bit, mask_of}
use Rattle.rules.specs.Tools.{any_below}
use Rattle.masks.proofs.Windows.{spreads}
use Rattle.masks.proofs.spread.Given as goal

abbrev pub invariant-loop-k : goal.invariant-loop-k
invariant-loop-k l = l.acc ≡ mask_of 16 (λ i. any_below l.k (spreads (bit l.starts) (bit l.cells) i))
