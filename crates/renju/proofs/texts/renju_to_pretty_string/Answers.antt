-- `renju::texts::renju_to_pretty_string` meets its contract. Assumes nothing.
use native.Mathlib.Omega.{arith}
use Rattle.display.specs.Answers.{written}
use Rattle.display.proofs.Sizes.{numbered-length}
use Rattle.renju.proofs.Named.{cells_named}
use Rattle.renju.proofs.Words.{count_given}
use Rattle.renju.proofs.texts.renju_to_pretty_string.Goals as goal

pub returns : goal.returns
unfolding written
returns c =
    let long = numbered-length c.args.cells.now in
    count_given _ _ _ (cells_named _) (omega arith) (c.of_length.ensures _ _ c.write_numbered_of.ensures.0, c.write_numbered_of.ensures.1) c.word.ensures
