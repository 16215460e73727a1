-- `line::Line::windows_at` meets its contract: after j turns the starts below j are kept with their segments. Assumes nothing.
use mathlib.Core.Path.{◌≡◌}
use Rattle.rules.specs.Tools.{gather}
use Rattle.rules.specs.Bit.{bit}
use Rattle.line.specs.Lists.{window_item}
use Rattle.line.proofs.line.Line.windows_at.Given as goal

abbrev pub invariant-loop-j : goal.invariant-loop-j
invariant-loop-j l = l.windows ≡ gather l.j (window_item (bit l.self.blacks) (bit l.self.whites) (bit l.starts))
