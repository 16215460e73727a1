-- `canonical::least::least_seen` meets its contract: it has the least of the views below `view`. Assumes nothing.
use mathlib.Core.Path.{◌≡◌, sym, ap, ap₂, ◌∙◌}
use mathlib.Core.Bool.{not}
use Prim.Native.Nat.{ℕ}
use native.Mathlib.Omega.{arith}
use Rattle.rules.specs.Views.{turn_cells}
use Rattle.canonical.specs.Canonical.{less}
use Rattle.canonical.proofs.Eight.{least_of, least-none, least-taken, least_kept, least-found}
use Rattle.canonical.proofs.least.least_seen.Goals as goal
use Rattle.canonical.proofs.least.least_seen.Goals.{then-less, else-less}

pub loop-view-init : goal.loop-view-init
loop-view-init c = (sym (least-none _), c.turned_cells-least.ensures)

pub loop-view-preserved : goal.loop-view-preserved
loop-view-preserved c =
    let cells = c.args.cells.now in
    let first = c.loop-view.first in
    let view = c.loop-view.view in
    let there = c.turned_cells-other.ensures in
    let said = ap₂ less (sym there) (sym c.loop-view.invariant.1) ∙ sym c.less.ensures in
    elim c.if-less.branch [
      | then-less w ↦ (
        w.first-is ∙ least-taken cells first view c.loop-view.invariant.0 (ap not (said ∙ w.if-less.true)),
        w.least-is ∙ there ∙ ap (λ (v : ℕ). turn_cells v cells) (sym w.first-is),
      )
      | else-less w ↦ (
        w.first-is ∙ least_kept cells first view c.loop-view.invariant.0 (ap not (said ∙ w.if-less.false)),
        w.least-is ∙ c.loop-view.invariant.1 ∙ ap (λ (v : ℕ). turn_cells v cells) (sym w.first-is),
      )
    ]

pub returns : goal.returns
returns c =
    let cells = c.args.cells.now in
    let all : c.loop-view.view ≡ 8 = omega arith in
    (c.loop-view.invariant.0 ∙ ap (least_of cells) all ∙ least-found cells, c.loop-view.invariant.1)
