-- `near::starts::other_starts` meets its contract. Assumes nothing.
use Rattle.near.proofs.Chosen.{left_out}
use Rattle.near.proofs.starts.other_starts.Goals as goal

pub returns : goal.returns
returns c = left_out _ c.word_of.ensures _ c.word_of-2.ensures c.parted.ensures
