-- `renju::listed::renju_empty_points` meets its contract. Assumes nothing.
use Rattle.renju.proofs.Named.{cells_named}
use Rattle.renju.proofs.Words.{list_given}
use Rattle.renju.proofs.listed.renju_empty_points.Goals as goal

pub returns : goal.returns
returns c = list_given 1 _ _ _ (cells_named _) c.empty_points_of.ensures c.word.ensures
