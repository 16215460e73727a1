-- `renju::sgf_texts::renju_to_sgf` meets its contract. Assumes nothing.
use Rattle.renju.proofs.Named.{moves_named}
use Rattle.renju.proofs.Words.{list_given}
use Rattle.renju.proofs.sgf_texts.renju_to_sgf.Goals as goal

pub returns : goal.returns
returns c = list_given 1 _ _ _ (moves_named _) c.to_sgf.ensures c.word.ensures
