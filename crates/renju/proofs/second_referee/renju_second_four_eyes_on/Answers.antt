-- `renju::second_referee::renju_second_four_eyes_on` meets its contract. Assumes nothing.
use Rattle.renju.proofs.Named.{cells_for_named}
use Rattle.renju.proofs.Words.{list_given}
use Rattle.renju.proofs.second_referee.renju_second_four_eyes_on.Goals as goal

pub returns : goal.returns
returns c = list_given 1 _ _ _ (cells_for_named _ _ _) c.four_eyes_on.ensures c.word.ensures
