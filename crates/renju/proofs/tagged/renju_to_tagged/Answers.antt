-- `renju::tagged::renju_to_tagged` meets its contract. Assumes nothing.
use Rattle.renju.proofs.Named.{tagged_named}
use Rattle.renju.proofs.Words.{list_given}
use Rattle.renju.proofs.tagged.renju_to_tagged.Goals as goal

pub returns : goal.returns
returns c = list_given 1 _ _ _ (tagged_named _ _) c.to_tagged.ensures c.word.ensures
