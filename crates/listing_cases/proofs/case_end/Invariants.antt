-- `listing_cases::case_end`: a turn passes a line.
use Rattle.std.proofs.Common.{length, ◌-◌, ◌<◌}
use Rattle.listing_cases.proofs.case_end.Given as goal

abbrev pub invariant-loop-i : goal.invariant-loop-i
invariant-loop-i l = l.at < l.i

abbrev pub decreases-loop-i : goal.decreases-loop-i
decreases-loop-i l = length l.cases - l.i
