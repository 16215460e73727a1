-- `records::line_at` meets its contract: a line ends within the bytes, and past their end it is empty. Assumes nothing.
use mathlib.Core.Path.{sym}
use native.Mathlib.Omega.{arith}
use Rattle.records.specs.Records.{line_at}
use Rattle.records.proofs.Laws.{place-within, line-cut, line-none}
use Rattle.records.proofs.line_at.Goals as goal

pub slice_bounds-result-end : goal.slice_bounds-result-end
slice_bounds-result-end c =
    let a = c.args in
    omega (arith, c.line_end-end.ensures, place-within a.s.now a.at 10)

pub returns-then-at-end : goal.returns-then-at-end
unfolding line_at
returns-then-at-end c =
    let a = c.args in
    rw (sym (line-cut a.s.now a.at (omega (arith, c.line_end-end.ensures, place-within a.s.now a.at 10))), c.line_end-end.ensures)

pub returns : goal.returns
returns c =
    let a = c.args in
    sym (line-none a.s.now a.at (omega (arith, c.line_end-end.ensures)))
