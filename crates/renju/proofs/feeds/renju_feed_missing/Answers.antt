-- `renju::feeds::renju_feed_missing` meets its contract. Assumes nothing.
use Rattle.renju.proofs.Named.{missing_named}
use Rattle.renju.proofs.Words.{word_given}
use Rattle.renju.proofs.feeds.renju_feed_missing.Goals as goal

pub returns : goal.returns
returns c = word_given _ _ _ (missing_named _ _) c.longer.ensures c.word.ensures
