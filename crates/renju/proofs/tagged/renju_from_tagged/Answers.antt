-- `renju::tagged::renju_from_tagged` meets its contract. Assumes nothing.
use Rattle.renju.proofs.Named.{back_named}
use Rattle.renju.proofs.Words.{list_given}
use Rattle.renju.proofs.tagged.renju_from_tagged.Goals as goal

pub returns : goal.returns
returns c = list_given 1 _ _ _ (back_named _) c.from_tagged.ensures c.word.ensures
