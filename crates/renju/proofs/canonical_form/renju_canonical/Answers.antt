-- `renju::canonical_form::renju_canonical` meets its contract. Assumes nothing.
use Rattle.renju.proofs.Named.{cells_named, list_named}
use Rattle.renju.proofs.Words.{word_given}
use Rattle.renju.proofs.canonical_form.renju_canonical.Goals as goal

pub returns : goal.returns
returns c = (word_given _ _ _ (list_named _ _ _ (cells_named _)) c.canonical_of.ensures.0 c.word.ensures, c.canonical_of.ensures.1)
