-- `display::segment_text::segment_in` meets its contract: after k turns the first k cells are written. Assumes nothing.
use mathlib.Core.Path.{◌≡◌}
use Rattle.rules.specs.Bit.{bit}
use Rattle.rules.specs.Tools.{gather}
use Rattle.display.specs.Texts.{barred_cell, values_of}
use Rattle.display.proofs.segment_text.segment_in.Given as goal

abbrev pub invariant-loop-k : goal.invariant-loop-k
invariant-loop-k l = l.text ≡ gather l.k (barred_cell (values_of (bit l.blacks) (bit l.whites)))
