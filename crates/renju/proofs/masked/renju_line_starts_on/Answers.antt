-- `renju::masked::renju_line_starts_on` meets its contract. Assumes nothing.
use Rattle.renju.proofs.Named.{line_rows_on_named}
use Rattle.renju.proofs.Words.{word_given}
use Rattle.renju.proofs.masked.renju_line_starts_on.Goals as goal

pub returns : goal.returns
returns c = word_given _ _ _ (line_rows_on_named _ _ _ _) c.row_starts_on.ensures c.word.ensures
