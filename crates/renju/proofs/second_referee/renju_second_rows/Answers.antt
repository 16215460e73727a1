-- `renju::second_referee::renju_second_rows` meets its contract. Assumes nothing.
use Rattle.renju.proofs.Named.{cells_rows_named}
use Rattle.renju.proofs.Words.{list_given}
use Rattle.renju.proofs.second_referee.renju_second_rows.Goals as goal

pub returns : goal.returns
returns c = list_given 4 _ _ _ (cells_rows_named _ _ _) c.rows.ensures c.word.ensures
