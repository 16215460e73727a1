-- `records::byte` meets its contract: two digits spell a byte. Assumes nothing.
use native.Mathlib.Omega.{arith}
use Rattle.records.proofs.Laws.{hex-byte}
use Rattle.records.proofs.byte.Goals as goal

pub overflow_cast-result : goal.overflow_cast-result
overflow_cast-result c = omega (arith, c.hex.ensures, hex-byte c.args.s.now c.args.at)
