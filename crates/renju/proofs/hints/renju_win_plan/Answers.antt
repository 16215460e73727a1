-- `renju::hints::renju_win_plan` meets its contract. Assumes nothing.
use Rattle.renju.proofs.Named.{plan_named}
use Rattle.renju.proofs.Words.{list_given}
use Rattle.renju.proofs.hints.renju_win_plan.Goals as goal

pub returns : goal.returns
returns c = list_given 1 _ _ _ (plan_named _ _ _ _) c.win_plan_of.ensures c.word.ensures
