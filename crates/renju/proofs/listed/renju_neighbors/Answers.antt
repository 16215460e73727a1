-- `renju::listed::renju_neighbors` meets its contract. Assumes nothing.
use Rattle.renju.proofs.Named.{cells_neighbours_named}
use Rattle.renju.proofs.Words.{list_given}
use Rattle.renju.proofs.listed.renju_neighbors.Goals as goal

pub returns : goal.returns
returns c = list_given 1 _ _ _ (cells_neighbours_named _ _ _) c.neighbors_of.ensures c.word.ensures
