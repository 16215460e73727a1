-- `sgf::moves::moves_in` meets its contract: the codes are kept, and the rest has the other moves. Assumes nothing.
use lib.ListN.{length}
use Rattle.sgf.proofs.Games.{Reading}
use Rattle.sgf.proofs.moves.moves_in.Given as goal

abbrev pub invariant-moves : goal.invariant-moves
invariant-moves l = Reading l.s l.codes l.rest

abbrev pub decreases-moves : goal.decreases-moves
decreases-moves l = length l.rest
