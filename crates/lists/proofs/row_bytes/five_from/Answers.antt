-- `lists::row_bytes::five_from` meets its contract. Assumes nothing.
use Rattle.masks.proofs.Windows.{below}
use Rattle.lists.proofs.Shown.{five-some, five-none}
use Rattle.lists.proofs.row_bytes.five_from.Goals as goal

pub returns-then-j-lt16 : goal.returns-then-j-lt16
returns-then-j-lt16 c = five-some _ _

pub returns-else-j-lt16 : goal.returns-else-j-lt16
returns-else-j-lt16 c = five-none _ _ (search below) c.if-j-lt16.false
