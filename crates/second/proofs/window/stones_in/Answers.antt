-- `second::window::stones_in` meets its contract: after k turns the first k cells are counted. Assumes nothing.
use mathlib.Core.Path.{◌≡◌, ap, sym, ◌∙◌}
use Prim.Native.Nat.{ℕ, ◌+◌}
use native.Mathlib.Omega.{arith}
use Rattle.rules.specs.Point.{line_no}
use Rattle.rules.specs.Grid.{stone_at}
use Rattle.second.proofs.Counted.{count_to, count_none, count-one, count_same, count-all}
use Rattle.second.proofs.window.stones_in.Goals as goal
use Rattle.second.proofs.window.stones_in.Goals.{then-has_stone, else-has_stone}

pub loop-k-init : goal.loop-k-init
loop-k-init c = (omega arith, count_none _ _)

pub loop-k-preserved : goal.loop-k-preserved
loop-k-preserved c =
    let a = c.args in
    let own = stone_at a.player a.board.now a.d (line_no a.d a.code) in
    let k = c.loop-k.k in
    let e = c.loop-k.invariant.1 in
    elim c.if-has_stone.branch [
      | then-has_stone w ↦ (
        omega arith,
        w.n-is ∙ ap (λ (x : ℕ). x + 1) e ∙ count-one own a.j k (rw c.get.ensures.value at (sym c.has_stone.ensures ∙ w.if-has_stone.true)),
      )
      | else-has_stone w ↦
          (omega arith, w.n-is ∙ e ∙ count_same own a.j k (rw c.get.ensures.value at (sym c.has_stone.ensures ∙ w.if-has_stone.false)))
    ]

pub returns : goal.returns
returns c =
    let a = c.args in
    let own = stone_at a.player a.board.now a.d (line_no a.d a.code) in
    let e : c.loop-k.k ≡ 5 = omega arith in
    c.loop-k.invariant.1 ∙ ap (count_to own a.j) e ∙ count-all own a.j
