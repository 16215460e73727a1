-- `hint::tries::hot_cells` meets its contract. Assumes nothing.
use Rattle.hint.specs.Seen.{hot_cell}
use Rattle.rules.proofs.Bits.{mask-or}
use Rattle.hint.proofs.tries.hot_cells.Goals as goal

pub returns : goal.returns
unfolding hot_cell
returns c =
    rw (
      c.eyes_of.ensures,
      c.count_mask-2.ensures,
      c.count_mask.ensures,
      c.key_size-size.ensures,
      c.mask_on-other.ensures,
      c.opponent.ensures,
      c.mask_on-own.ensures,
      mask-or,
    )
