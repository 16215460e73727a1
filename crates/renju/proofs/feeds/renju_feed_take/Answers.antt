-- `renju::feeds::renju_feed_take` meets its contract. Assumes nothing.
use Rattle.renju.proofs.Named.{held_named}
use Rattle.renju.proofs.Words.{word_given}
use Rattle.renju.proofs.feeds.renju_feed_take.Goals as goal

pub returns : goal.returns
returns c = (word_given _ _ _ (held_named _ _ _ _) c.take_held.ensures.0 c.word.ensures, c.take_held.ensures.1)
