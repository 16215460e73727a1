-- `near::words::past_end` meets its contract. Assumes nothing.
use native.Mathlib.Omega.{arith}
use Rattle.rules.proofs.Address.{size-le}
use Rattle.masks.proofs.Windows.{from_some}
use Rattle.near.proofs.words.past_end.Goals as goal

pub overflow_shl-result : goal.overflow_shl-result
overflow_shl-result c = omega (arith, size-le c.args.d c.line_no.result, c.line_size.ensures)

pub returns : goal.returns
returns c = rw (c.line_size.ensures, c.line_no.ensures) (from_some _)
