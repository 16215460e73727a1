-- `masks::score_bound` meets its contract. Assumes nothing.
use borrow.Author.Rules.{rules}
use Rattle.masks.proofs.Windows.{below, bound-none, bound_some}
use Rattle.masks.proofs.score_bound.Goals as goal

pub returns-then-size-op : goal.returns-then-size-op
returns-then-size-op c = bound-none _ _ _ (search below) (search rules)

pub returns-else-size-op : goal.returns-else-size-op
returns-else-size-op c = bound_some _ _ _ (search below) (search below) (search rules)
