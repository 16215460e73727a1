-- `renju::hints::renju_win_check` meets its contract. Assumes nothing.
use Rattle.renju.proofs.Named.{check_named}
use Rattle.renju.proofs.Words.{word_given}
use Rattle.renju.proofs.hints.renju_win_check.Goals as goal

pub returns : goal.returns
returns c = word_given _ _ _ (check_named _ _ _) c.win_check_of.ensures c.word.ensures
