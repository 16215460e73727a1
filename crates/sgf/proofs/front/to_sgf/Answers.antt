-- `sgf::front::to_sgf` meets its contract: refused, or the text is laid out, then handed out. Assumes nothing.
use Rattle.rules.proofs.Refusals.{unrefused}
use Rattle.cells.specs.Cells.{moves_refusal}
use Rattle.cells.proofs.Given.{moves-in}
use Rattle.sgf.proofs.front.to_sgf.Goals as goal

pub game_text-text-requires : goal.game_text-text-requires
game_text-text-requires c =
    (moves-in c.args.moves.now (unrefused (moves_refusal c.args.moves.now) c.moves_refusal.ensures c.in_ok-moves_refusal.was)).0
