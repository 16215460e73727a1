-- `cells::codes::neighbor_points` meets its contract: after d turns the first d directions are done. Assumes nothing.
use mathlib.Core.Path.{◌≡◌, ap, sym, ◌∙◌}
use Prim.Native.Nat.{ℕ}
use native.Mathlib.Omega.{arith}
use lib.ListN.{length}
use Rattle.rules.specs.Tools.{gather}
use Rattle.rules.specs.Grid.{neighbours, neighbours_in}
use Rattle.lent.proofs.Laws.{gather_none, gather_put, gather-length}
use Rattle.cells.proofs.Kept.{around-short}
use Rattle.cells.proofs.codes.neighbor_points.Goals as goal

pub loop-d-init : goal.loop-d-init
loop-d-init c =
    let a = c.args in
    c.new-found.ensures ∙ sym (gather_none (neighbours_in a.cells.now a.code a.distance a.only_empty))

pub keep_neighbors-requires : goal.keep_neighbors-requires
keep_neighbors-requires c =
    let a = c.args in
    let h = c.requires in
    let on = c.loop-d-test.true in
    let few = gather-length 29 c.loop-d.d (neighbours_in a.cells.now a.code a.distance a.only_empty)
    (λ i l. around-short a.cells.now a.code a.distance a.only_empty h.1 i) in
    (h.0, h.1, on, omega (arith, ap length c.loop-d.invariant, few, on))

pub loop-d-preserved : goal.loop-d-preserved
loop-d-preserved c =
    let a = c.args in
    gather_put 225 (neighbours_in a.cells.now a.code a.distance a.only_empty) c.loop-d.d c.loop-d.invariant c.keep_neighbors.ensures

pub returns : goal.returns
unfolding neighbours
returns c =
    let a = c.args in
    let e : c.loop-d.d ≡ 4 = omega arith in
    c.loop-d.invariant ∙ ap (λ (i : ℕ). gather i (neighbours_in a.cells.now a.code a.distance a.only_empty)) e
