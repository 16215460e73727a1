-- `renju::second_referee::renju_second_rows_on` meets its contract. Assumes nothing.
use Rattle.renju.proofs.Named.{cells_rows_on_named}
use Rattle.renju.proofs.Words.{list_given}
use Rattle.renju.proofs.second_referee.renju_second_rows_on.Goals as goal

pub returns : goal.returns
returns c = list_given 4 _ _ _ (cells_rows_on_named _ _ _ _) c.rows_on.ensures c.word.ensures
