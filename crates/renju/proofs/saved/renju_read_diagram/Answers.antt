-- `renju::saved::renju_read_diagram` meets its contract. Assumes nothing.
use native.Mathlib.Omega.{arith}
use Rattle.text.proofs.Sound.{diagram-text-ok}
use Rattle.renju.proofs.Named.{diagram_text_named}
use Rattle.renju.proofs.Words.{count_given}
use Rattle.renju.proofs.saved.renju_read_diagram.Goals as goal

pub returns : goal.returns
returns c =
    let long = (diagram-text-ok c.args.text.now).long in
    count_given _ _ _ (diagram_text_named _) (omega arith) (c.cells_out.ensures _ _ c.read_diagram_cells.ensures) c.word.ensures
