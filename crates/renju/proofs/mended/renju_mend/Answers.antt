-- `renju::mended::renju_mend` meets its contract. Assumes nothing.
use Rattle.renju.proofs.Named.{text_named}
use Rattle.renju.proofs.Words.{list_given}
use Rattle.renju.proofs.mended.renju_mend.Goals as goal

pub returns : goal.returns
returns c = list_given 1 _ _ _ (text_named _) c.write_mended.ensures c.word.ensures
