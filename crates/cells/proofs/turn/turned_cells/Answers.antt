-- `cells::turn::turned_cells` meets its contract: after x turns the first x columns are filled in. Assumes nothing.
use mathlib.Core.Path.{◌≡◌, ap, ◌∙◌}
use mathlib.Core.List.{List}
use Prim.Native.Nat.{ℕ, ◌*◌}
use native.Mathlib.Omega.{arith}
use lib.ListN.{get_or}
use Rattle.lent.specs.Lists.{zeros}
use Rattle.cells.specs.Turned.{turned_to}
use Rattle.cells.proofs.Stepped.{copied, turned_none, turned-all}
use Rattle.cells.proofs.turn.turned_cells.Goals as goal

pub loop-x-init : goal.loop-x-init
unfolding zeros
loop-x-init c = turned_none _ _

pub returns : goal.returns
returns c =
    let a = c.args in
    let cells = a.cells.now in
    let back = c.undone-back.result in
    let from = c.copied-from.result in
    let all : c.loop-x.x ≡ 15 = omega arith in
    c.loop-x.invariant ∙ ap (λ (n : ℕ). turned_to (15 * n) back from) all
    ∙ ap (λ (v : ℕ). turned_to 225 v from) c.undone-back.ensures
    ∙ turned-all a.view cells from (λ p hp. ap (λ (t : List ℕ). get_or t p 0) c.copied-from.ensures ∙ copied cells p hp)
