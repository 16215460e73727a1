-- `renju::tagged::renju_tagged_view` meets its contract. Assumes nothing.
use Rattle.renju.proofs.Named.{record_named}
use Rattle.renju.proofs.Words.{word_given}
use Rattle.renju.proofs.tagged.renju_tagged_view.Goals as goal

pub returns : goal.returns
returns c = word_given _ _ _ (record_named _) c.tagged_view.ensures c.word.ensures
