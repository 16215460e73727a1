-- `renju::games::renju_game` meets its contract. Assumes nothing.
use Rattle.renju.proofs.Named.{list_named, moves_named}
use Rattle.renju.proofs.Words.{word_given}
use Rattle.renju.proofs.games.renju_game.Goals as goal

pub returns : goal.returns
returns c = (word_given _ _ _ (list_named _ _ _ (moves_named _)) c.game_out.ensures.0 c.word.ensures, c.game_out.ensures.1)
