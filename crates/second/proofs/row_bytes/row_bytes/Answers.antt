-- `second::row_bytes::row_bytes` meets its contract: it says the definition. Assumes nothing.
use Rattle.rules.specs.Grid.{row_bytes}
use Rattle.second.proofs.row_bytes.row_bytes.Goals as goal

pub returns : goal.returns
unfolding row_bytes
returns c = rw (c.get.ensures.value, c.key_of-key.ensures, c.stones_mask-stones.ensures, c.eyes_mask-eyes.ensures)
