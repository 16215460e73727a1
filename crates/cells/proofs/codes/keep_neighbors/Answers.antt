-- `cells::codes::keep_neighbors` meets its contract: after s turns the first s cells are looked at. Assumes nothing.
use mathlib.Core.Path.{ap, sym, ◌∙◌}
use mathlib.Core.List.{[], ◌∷◌, append-nil}
use native.Mathlib.Omega.{arith}
use lib.ListN.{length, length-append}
use Rattle.rules.specs.Tools.{gather}
use Rattle.rules.specs.Grid.{neighbour_item}
use Rattle.cells.proofs.Kept.{near-short, behind_kept, behind_passed}
use Rattle.std.specs.Prelude.{option_to_list}
use Rattle.cells.proofs.codes.keep_neighbors.Goals as goal
use Rattle.cells.proofs.codes.keep_neighbors.Goals.{in-Some, in_default}

pub loop-s-init : goal.loop-s-init
unfolding gather
loop-s-init c = sym (append-nil c.args.found.now)

pub loop-s-preserved : goal.loop-s-preserved
loop-s-preserved c =
    let a = c.args in
    let h = c.requires in
    let s = c.loop-s.s in
    let f = neighbour_item a.cells.now a.code a.distance a.only_empty a.d in
    let fit = near-short a.cells.now a.code a.distance a.only_empty a.d s in
    let long = ap length c.loop-s.invariant ∙ length-append a.found.now (gather s f) in
    elim c.match-neighbor_at.branch [
      | in-Some w ↦ w.found-is ∙ behind_kept 225 a.found.now f s c.loop-s.invariant (w.in-Some.there ∷ []) w.keep.ensures
          (omega (arith, fit, long, c.loop-s-test.true, h)) (ap option_to_list (sym w.in-Some.is) ∙ c.neighbor_at.ensures)
      | in_default w ↦ behind_passed 225 a.found.now f s c.loop-s.invariant w.found-is
          (sym (ap option_to_list w.in_default.is) ∙ c.neighbor_at.ensures)
    ]
