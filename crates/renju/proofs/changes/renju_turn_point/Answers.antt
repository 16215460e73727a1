-- `renju::changes::renju_turn_point` meets its contract. Assumes nothing.
use Rattle.renju.proofs.Named.{code_named, first_named, view_named}
use Rattle.renju.proofs.Words.{word_given}
use Rattle.renju.proofs.changes.renju_turn_point.Goals as goal

pub returns : goal.returns
returns c = word_given _ _ _ (first_named _ _ (code_named _) (view_named _)) c.turn_point.ensures c.word.ensures
