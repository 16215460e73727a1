-- `renju::texts::renju_read` meets its contract. Assumes nothing.
use native.Mathlib.Omega.{arith}
use Rattle.text.proofs.Sound.{read_ok}
use Rattle.renju.proofs.Named.{read_named}
use Rattle.renju.proofs.Words.{count_given}
use Rattle.renju.proofs.texts.renju_read.Goals as goal

pub returns : goal.returns
returns c =
    let long = (read_ok c.args.text.now).long in
    count_given _ _ _ (read_named _) (omega arith) (c.cells_out.ensures _ _ c.read_cells.ensures) c.word.ensures
