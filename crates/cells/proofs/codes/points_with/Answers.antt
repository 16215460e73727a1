-- `cells::codes::points_with` meets its contract: after p turns the points below p are looked at. Assumes nothing.
use mathlib.Core.Path.{◌≡◌, ap, sym, ◌∙◌}
use mathlib.Core.List.{[], ◌∷◌}
use native.Mathlib.Omega.{arith}
use lib.Dec.{eqb}
use lib.ListN.{get_or}
use borrow.Author.Tests.{eq-eqb, ne_eqb}
use Rattle.rules.specs.Tools.{gather}
use Rattle.lent.proofs.Laws.{gather_none, gather_kept, gather_passed, short}
use Rattle.cells.specs.Cells.{value_item, value_list}
use Rattle.cells.proofs.codes.points_with.Goals as goal
use Rattle.cells.proofs.codes.points_with.Goals.{then-value_at-value, else-value_at-value}

pub loop-p-init : goal.loop-p-init
loop-p-init c = c.new-found.ensures ∙ sym (gather_none (value_item c.args.cells.now c.args.value))

pub loop-p-preserved : goal.loop-p-preserved
loop-p-preserved c =
    let a = c.args in
    let l = a.cells.now in
    let p = c.loop-p.p in
    let fit = short 1 (λ i. eqb (get_or l i 0) a.value) (λ i. i ∷ []) (λ i. omega arith) p in
    elim c.if-value_at-value.branch [
      | then-value_at-value w ↦ w.found-is ∙ gather_kept 225 (value_item l a.value) p c.loop-p.invariant (p ∷ []) w.keep.ensures
          (omega (arith, fit, c.loop-p-test.true)) (rw (eq-eqb (get_or l p 0) a.value (sym c.value_at.ensures ∙ w.if-value_at-value.true)))
      | else-value_at-value w ↦ gather_passed 225 (value_item l a.value) p c.loop-p.invariant w.found-is
          (rw (ne_eqb (get_or l p 0) a.value (λ e. w.if-value_at-value.false (c.value_at.ensures ∙ e))))
    ]

pub returns : goal.returns
unfolding value_list
returns c =
    let e : c.loop-p.p ≡ 225 = omega arith in
    c.loop-p.invariant ∙ ap (λ i. gather i (value_item c.args.cells.now c.args.value)) e
