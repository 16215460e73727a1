-- `sgf::written::game_text` meets its contract: the front, the moves, the end, one behind the other. Assumes nothing.
use native.Mathlib.Omega.{arith}
use Rattle.sgf.proofs.Texts.{text-none, text_more, text-done}
use Rattle.sgf.proofs.written.game_text.Goals as goal

pub loop-i-init : goal.loop-i-init
loop-i-init c = text-none c.args.moves.now c.requires c.keep.new.self (rw c.new-text.ensures at c.keep.ensures)

pub loop-i-preserved : goal.loop-i-preserved
loop-i-preserved c =
    text_more c.args.moves.now c.requires c.loop-i.i (omega arith) c.loop-i.text c.loop-i.invariant c.keep-in-loop-i.new.self
    (rw c.move_text.ensures at c.keep-in-loop-i.ensures)

pub returns : goal.returns
returns c =
    text-done c.args.moves.now c.requires c.loop-i.i (omega arith) c.loop-i.text c.loop-i.invariant c.keep-2.new.self c.keep-2.ensures
