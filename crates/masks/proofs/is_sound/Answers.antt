-- `masks::is_sound` meets its contract: the mask of the cells that are not sound is empty. Assumes nothing.
use Rattle.masks.proofs.Windows.{sound-mask, below}
use Rattle.masks.proofs.is_sound.Goals as goal

pub returns : goal.returns
returns c = simp c.bits_from.ensures (sound-mask _ _ _ (search below) (search below))
