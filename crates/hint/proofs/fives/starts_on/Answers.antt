-- `hint::fives::starts_on` meets its contract. Assumes nothing.
use Rattle.hint.proofs.Lined.{shown-rows}
use Rattle.hint.proofs.fives.starts_on.Goals as goal

pub returns : goal.returns
returns c =
    rw (
      c.row_starts.ensures,
      c.is_black.ensures,
      c.key_size.ensures,
      c.mask_on-2.ensures,
      c.opponent.ensures,
      c.mask_on.ensures,
      c.get-key.ensures.value,
    )
    (shown-rows c.args.player c.args.kind c.args.lines.now c.args.key c.requires (rw c.get-key.ensures.value at c.get-key.ensures.below))
