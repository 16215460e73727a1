-- `near::words::spot_in` meets its contract. Assumes nothing.
use borrow.Author.Rules.{rules}
use mathlib.Core.Path.{◌∙◌}
use native.Mathlib.Omega.{arith}
use Rattle.near.proofs.Places.{cell-lt, spot-place}
use Rattle.near.proofs.words.spot_in.Goals as goal

pub overflow_shl-cell_no : goal.overflow_shl-cell_no
overflow_shl-cell_no c = omega (arith, cell-lt c.args.d c.args.code (search rules), c.cell_no.ensures)

pub returns : goal.returns
returns c = c.low.ensures ∙ rw c.cell_no.ensures (spot-place _ (cell-lt _ _ (search rules)))
