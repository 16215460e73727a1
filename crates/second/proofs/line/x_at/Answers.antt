-- `second::line::x_at` meets its contract: along a vertical line x stays. Assumes nothing.
use mathlib.Core.Path.{sym, ◌∙◌}
use native.Mathlib.Omega.{arith}
use Rattle.rules.specs.Point.{line_no}
use Rattle.rules.proofs.Address.{size-le}
use Rattle.second.specs.Walk.{x_at}
use Rattle.second.proofs.Walks.{back-left, x-more}
use Rattle.second.proofs.line.x_at.Goals as goal

pub returns-then-get-eq0 : goal.returns-then-get-eq0
unfolding x_at
returns-then-get-eq0 c = rw (c.get-x.ensures.value, sym c.get.ensures.value ∙ c.if-get-eq0.true)

pub overflow_sub-result : goal.overflow_sub-result
overflow_sub-result c =
    let a = c.args in
    let l = back-left a.d a.code (omega arith) (omega arith) (λ e. c.if-get-eq0.false (c.get.ensures.value ∙ e)) in
    omega (arith, c.cell_no.ensures, c.get-x.ensures.value)

pub overflow_add-result : goal.overflow_add-result
overflow_add-result c =
    let a = c.args in
    let l = size-le a.d (line_no a.d a.code) in
    let h = c.requires in
    record { fits = omega arith }

pub returns : goal.returns
returns c =
    let a = c.args in
    rw (c.get-x.ensures.value, c.cell_no.ensures) (x-more a.d a.code a.i (λ e. c.if-get-eq0.false (c.get.ensures.value ∙ e)))
