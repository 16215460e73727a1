-- `second::line::y_at` meets its contract: along a horizontal line y stays, along a descending one it falls. Assumes nothing.
use mathlib.Core.Path.{◌≡◌, sym, ◌∙◌}
use native.Mathlib.Omega.{arith}
use Rattle.rules.specs.Point.{line_no}
use Rattle.rules.proofs.Address.{size-le, cell-here}
use Rattle.second.specs.Walk.{y_at}
use Rattle.second.proofs.Walks.{back-down, on-down, y-more}
use Rattle.second.proofs.line.y_at.Goals as goal

pub returns-then-get-eq1 : goal.returns-then-get-eq1
unfolding y_at
returns-then-get-eq1 c = rw (c.get-y.ensures.value, sym c.get.ensures.value ∙ c.if-get-eq1.true)

pub overflow_add-result : goal.overflow_add-result
overflow_add-result c =
    let a = c.args in
    let l = size-le a.d (line_no a.d a.code) in
    let h = cell-here a.d a.code (omega arith) (omega arith) in
    record { fits = omega (arith, c.cell_no.ensures, c.get-y.ensures.value) }

pub overflow_sub-result : goal.overflow_sub-result
overflow_sub-result c =
    let a = c.args in
    let h = on-down a.d a.code (omega arith) (omega arith) a.i c.requires (sym c.get-2.ensures.value ∙ c.if-get-eq3.true) in
    omega (arith, c.cell_no.ensures, c.get-y.ensures.value)

pub returns-then-get-eq3 : goal.returns-then-get-eq3
unfolding y_at
returns-then-get-eq3 c = rw (c.get-y.ensures.value, c.cell_no.ensures, sym c.get-2.ensures.value ∙ c.if-get-eq3.true)

pub overflow_sub-result-2 : goal.overflow_sub-result-2
overflow_sub-result-2 c =
    let a = c.args in
    let n : a.d ≡ 1 → ⊥ = λ e. c.if-get-eq1.false (c.get.ensures.value ∙ e) in
    let m : a.d ≡ 3 → ⊥ = λ e. c.if-get-eq3.false (c.get-2.ensures.value ∙ e) in
    let l = back-down a.d a.code (omega arith) (omega arith) n m in
    omega (arith, c.cell_no-2.ensures, c.get-y.ensures.value)

pub overflow_add-result-2 : goal.overflow_add-result-2
overflow_add-result-2 c =
    let a = c.args in
    let l = size-le a.d (line_no a.d a.code) in
    let h = c.requires in
    record { fits = omega arith }

pub returns : goal.returns
returns c =
    let a = c.args in
    let n : a.d ≡ 1 → ⊥ = λ e. c.if-get-eq1.false (c.get.ensures.value ∙ e) in
    let m : a.d ≡ 3 → ⊥ = λ e. c.if-get-eq3.false (c.get-2.ensures.value ∙ e) in
    rw (c.get-y.ensures.value, c.cell_no-2.ensures) (y-more a.d a.code a.i (omega arith) n m)
