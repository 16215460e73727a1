-- `renju::depths::renju_depth` meets its contract. Assumes nothing.
use Rattle.renju.proofs.Named.{cells_at_named}
use Rattle.renju.proofs.Words.{word_given}
use Rattle.renju.proofs.depths.renju_depth.Goals as goal

pub returns : goal.returns
returns c = word_given _ _ _ (cells_at_named _ _) c.depth_and_verdict.ensures c.word.ensures
