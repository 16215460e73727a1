use Rattle.std.proofs.Common.{length, ◌-◌}
use Rattle.listing_cases.proofs.list_cases.Given as goal

abbrev pub decreases-loop-at : goal.decreases-loop-at
decreases-loop-at g l = length l.cases - l.at
