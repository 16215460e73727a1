-- `renju::sgf_texts::renju_from_sgf` meets its contract. Assumes nothing.
use Rattle.renju.proofs.Named.{sgf_named}
use Rattle.renju.proofs.Words.{list_given}
use Rattle.renju.proofs.sgf_texts.renju_from_sgf.Goals as goal

pub returns : goal.returns
returns c = list_given 1 _ _ _ (sgf_named _) c.from_sgf.ensures c.word.ensures
