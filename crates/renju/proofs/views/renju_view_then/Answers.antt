-- `renju::views::renju_view_then` meets its contract. Assumes nothing.
use Rattle.renju.proofs.Named.{first_named, view_named}
use Rattle.renju.proofs.Words.{word_given}
use Rattle.renju.proofs.views.renju_view_then.Goals as goal

pub returns : goal.returns
returns c = word_given _ _ _ (first_named _ _ (view_named _) (view_named _)) c.view_then.ensures c.word.ensures
