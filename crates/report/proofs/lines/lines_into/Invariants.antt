-- `report::lines::lines_into` meets its contract: after i turns the first i lines are written. Assumes nothing.
use mathlib.Core.Path.{◌≡◌}
use Rattle.rules.specs.Tools.{gather}
use Rattle.report.specs.Listing.{pair_text}
use Rattle.report.proofs.lines.lines_into.Given as goal

abbrev pub invariant-loop-i : goal.invariant-loop-i
invariant-loop-i l = l.text ≡ gather l.i (pair_text l.pairs)
