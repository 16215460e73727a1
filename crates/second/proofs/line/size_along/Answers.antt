-- `second::line::size_along` meets its contract: the cells before the point, the point and those after it are the line. Assumes nothing.
use native.Mathlib.Omega.{arith}
use Rattle.rules.specs.Point.{line_no}
use Rattle.rules.proofs.Address.{size-le}
use Rattle.second.proofs.Walks.{whole-line}
use Rattle.second.proofs.line.size_along.Goals as goal

pub overflow_add-result : goal.overflow_add-result
overflow_add-result c =
    let a = c.args in
    let w = whole-line a.d a.code (omega arith) (omega arith) in
    let l = size-le a.d (line_no a.d a.code) in
    record { fits = omega (arith, c.cell_no.ensures) }

pub overflow_add-result-2 : goal.overflow_add-result-2
overflow_add-result-2 c =
    let a = c.args in
    let w = whole-line a.d a.code (omega arith) (omega arith) in
    let l = size-le a.d (line_no a.d a.code) in
    record { fits = omega (arith, c.cell_no.ensures, c.steps_on.ensures) }

pub returns : goal.returns
returns c =
    rw (c.cell_no.ensures, c.steps_on.ensures) (whole-line c.args.d c.args.code (omega arith) (omega arith))
