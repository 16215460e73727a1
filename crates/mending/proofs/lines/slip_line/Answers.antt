-- `mending::lines::slip_line` meets its contract: the number, a space, the reason and byte 10, one behind the other. Assumes nothing.
use mathlib.Core.Path.{◌∙◌}
use Rattle.mending.proofs.Sizes.{slip-put}
use Rattle.mending.proofs.lines.slip_line.Goals as goal

pub returns : goal.returns
returns c =
    slip-put c.args.item c.args.reason c.as_slice.result.now c.as_slice-2.result.now c.keep.new.self c.keep-2.new.self c.keep-3.new.self
    c.keep-4.new.self (c.as_slice.ensures.value ∙ c.number_label.ensures) (c.as_slice-2.ensures.value ∙ c.number_label-2.ensures)
    (rw c.new-line.ensures at c.keep.ensures) c.keep-2.ensures c.keep-3.ensures c.keep-4.ensures
