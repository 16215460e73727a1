-- `mending::lines::two_lines` meets its contract: the list, byte 10 and the second line, one behind the other. Assumes nothing.
use mathlib.Core.Path.{◌∙◌}
use Rattle.lent.specs.Lists.{zeros}
use Rattle.mending.proofs.Sizes.{list-taken, lines-put}
use Rattle.mending.proofs.lines.two_lines.Goals as goal

pub returns : goal.returns
unfolding zeros
returns c =
    let moves = c.args.moves.now in
    let taken = list-taken moves c.requires.0 c.requires.1 c.write_points.result c.unwrap_or-len.result c.write_points.new.out c.head.result.now
    c.write_points.ensures c.unwrap_or-len.ensures c.head.ensures in
    lines-put moves c.args.item c.args.reason c.requires.0 c.head.result.now c.as_slice.result.now c.keep.new.self c.keep-2.new.self
    c.keep-3.new.self taken (c.as_slice.ensures.value ∙ c.slip_line.ensures) (rw c.new-lines.ensures at c.keep.ensures) c.keep-2.ensures
    c.keep-3.ensures
