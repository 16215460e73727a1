-- `renju::changes::renju_turn` meets its contract. Assumes nothing.
use Rattle.renju.proofs.Named.{cells_named, first_named, view_named}
use Rattle.renju.proofs.Words.{list_given}
use Rattle.renju.proofs.changes.renju_turn.Goals as goal

pub returns : goal.returns
returns c = list_given 1 _ _ _ (first_named _ _ (cells_named _) (view_named _)) c.turned_of.ensures c.word.ensures
