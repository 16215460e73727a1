-- `renju::second_referee::renju_second_forbidden_strict` meets its contract. Assumes nothing.
use Rattle.renju.proofs.Named.{cells_at_named}
use Rattle.renju.proofs.Words.{word_given}
use Rattle.renju.proofs.second_referee.renju_second_forbidden_strict.Goals as goal

pub returns : goal.returns
returns c = word_given _ _ _ (cells_at_named _ _) c.forbidden_strict.ensures c.word.ensures
