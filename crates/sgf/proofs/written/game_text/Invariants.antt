-- `sgf::written::game_text` meets its contract: the front, and the first i moves behind it. Assumes nothing.
use mathlib.Core.Path.{◌≡◌}
use mathlib.Core.List.{◌++◌}
use lib.ListN.{take}
use Rattle.sgf.specs.Games.{moves_text}
use Rattle.sgf.proofs.Texts.{front_text}
use Rattle.sgf.proofs.written.game_text.Given as goal

abbrev pub invariant-loop-i : goal.invariant-loop-i
invariant-loop-i l = l.text ≡ front_text ++ moves_text 0 (take l.i l.moves)
