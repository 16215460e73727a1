-- `renju::saved::renju_convert` meets its contract. Assumes nothing.
use Rattle.renju.proofs.Named.{convert_named}
use Rattle.renju.proofs.Words.{list_given}
use Rattle.renju.proofs.saved.renju_convert.Goals as goal

pub returns : goal.returns
returns c = list_given 1 _ _ _ (convert_named _) c.convert_diagram.ensures c.word.ensures
