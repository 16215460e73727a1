-- `near::eyes::first_gap` meets its contract. Assumes nothing.
use borrow.Author.Rules.{rules}
use Rattle.near.proofs.Gap.{gap-none, gap-low}
use Rattle.near.proofs.eyes.first_gap.Goals as goal

pub returns-then-j-ge16 : goal.returns-then-j-ge16
returns-then-j-ge16 c = gap-none _ _ (search rules) c.if-j-ge16.true

pub returns : goal.returns
returns c = gap-low _ _ (search rules) c.if-j-ge16.false
