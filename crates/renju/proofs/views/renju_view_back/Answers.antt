-- `renju::views::renju_view_back` meets its contract. Assumes nothing.
use Rattle.renju.proofs.Named.{view_named}
use Rattle.renju.proofs.Words.{word_given}
use Rattle.renju.proofs.views.renju_view_back.Goals as goal

pub returns : goal.returns
returns c = word_given _ _ _ (view_named _) c.view_back.ensures c.word.ensures
