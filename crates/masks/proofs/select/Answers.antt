-- `masks::select` meets its contract, digit by digit. Assumes nothing.
use Rattle.masks.proofs.Windows.{masks, has0, has1, has2}
use Rattle.masks.proofs.select.Goals as goal

pub returns : goal.returns
returns c = simp (c.digit_is.ensures, c.digit_is-2.ensures, c.digit_is-3.ensures, masks, has0, has1, has2)
