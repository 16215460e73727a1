-- `renju::counted::renju_counts` meets its contract. Assumes nothing.
use Rattle.renju.proofs.Named.{cells_named}
use Rattle.renju.proofs.Words.{word_given}
use Rattle.renju.proofs.counted.renju_counts.Goals as goal

pub returns : goal.returns
returns c = word_given _ _ _ (cells_named _) c.counts_of.ensures c.word.ensures
