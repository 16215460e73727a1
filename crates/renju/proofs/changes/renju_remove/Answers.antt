-- `renju::changes::renju_remove` meets its contract. Assumes nothing.
use Rattle.renju.proofs.Named.{cells_at_named}
use Rattle.renju.proofs.Words.{word_given}
use Rattle.renju.proofs.changes.renju_remove.Goals as goal

pub returns : goal.returns
returns c = (word_given _ _ _ (cells_at_named _ _) c.remove_of.ensures.0 c.word.ensures, c.remove_of.ensures.1)
