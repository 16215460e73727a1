-- `records::next_line` meets its contract: a line ends within the bytes. Assumes nothing.
use native.Mathlib.Omega.{arith}
use Rattle.records.proofs.Laws.{place-within}
use Rattle.records.proofs.next_line.Goals as goal

pub overflow_add-result : goal.overflow_add-result
overflow_add-result c = omega (arith, c.line_end.ensures, place-within c.args.s.now c.args.at 10)
