-- `renju::texts::renju_read_point` meets its contract. Assumes nothing.
use Rattle.renju.proofs.Named.{point_text_named}
use Rattle.renju.proofs.Words.{word_given}
use Rattle.renju.proofs.texts.renju_read_point.Goals as goal

pub returns : goal.returns
returns c = word_given _ _ _ (point_text_named _) c.read_point.ensures c.word.ensures
