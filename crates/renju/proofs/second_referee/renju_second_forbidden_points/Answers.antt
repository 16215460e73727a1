-- `renju::second_referee::renju_second_forbidden_points` meets its contract. Assumes nothing.
use Rattle.renju.proofs.Named.{cells_named}
use Rattle.renju.proofs.Words.{list_given}
use Rattle.renju.proofs.second_referee.renju_second_forbidden_points.Goals as goal

pub returns : goal.returns
returns c = list_given 2 _ _ _ (cells_named _) c.forbidden_points.ensures c.word.ensures
