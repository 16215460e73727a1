-- `renju::second_referee::renju_second_forbidden` meets its contract. Assumes nothing.
use Rattle.renju.proofs.Named.{cells_forbidden_named}
use Rattle.renju.proofs.Words.{word_given}
use Rattle.renju.proofs.second_referee.renju_second_forbidden.Goals as goal

pub returns : goal.returns
returns c = word_given _ _ _ (cells_forbidden_named _ _) c.forbidden.ensures c.word.ensures
