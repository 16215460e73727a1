-- `renju::changes::renju_put` meets its contract. Assumes nothing.
use Rattle.renju.proofs.Named.{cells_for_named}
use Rattle.renju.proofs.Words.{word_given}
use Rattle.renju.proofs.changes.renju_put.Goals as goal

pub returns : goal.returns
returns c = (word_given _ _ _ (cells_for_named _ _ _) c.put_of.ensures.0 c.word.ensures, c.put_of.ensures.1)
