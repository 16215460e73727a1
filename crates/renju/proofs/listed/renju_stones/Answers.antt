-- `renju::listed::renju_stones` meets its contract. Assumes nothing.
use Rattle.renju.proofs.Named.{cells_stones_named}
use Rattle.renju.proofs.Words.{list_given}
use Rattle.renju.proofs.listed.renju_stones.Goals as goal

pub returns : goal.returns
returns c = list_given 1 _ _ _ (cells_stones_named _ _) c.stones_of.ensures c.word.ensures
