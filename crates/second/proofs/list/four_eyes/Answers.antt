-- `second::list::four_eyes` meets its contract: after d turns the lines of the first d directions are done. Assumes nothing.
use mathlib.Core.Path.{◌≡◌, ap, sym, ◌∙◌}
use Prim.Native.Nat.{ℕ}
use native.Mathlib.Omega.{arith}
use lib.ListN.{length}
use Rattle.rules.specs.Tools.{gather}
use Rattle.rules.specs.Grid.{four_eyes, eyes_in}
use Rattle.lent.proofs.Laws.{gather_none, gather_put, gather-length}
use Rattle.second.proofs.Bounded.{made-is}
use Rattle.second.proofs.Gathered.{eyes-short}
use Rattle.second.proofs.list.four_eyes.Goals as goal

pub loop-d-init : goal.loop-d-init
loop-d-init c =
    let a = c.args in
    c.new-list.ensures ∙ sym (gather_none (eyes_in a.player a.board.now a.code))

pub keep_eyes-requires : goal.keep_eyes-requires
keep_eyes-requires c =
    let a = c.args in
    let on = c.loop-d-test.true in
    let few = gather-length 15 c.loop-d.d (eyes_in a.player a.board.now a.code) (λ d l. eyes-short a.player a.board.now a.code d) in
    omega (arith, ap length c.loop-d.invariant, few, on)

pub loop-d-preserved : goal.loop-d-preserved
loop-d-preserved c =
    let a = c.args in
    gather_put 60 (eyes_in a.player a.board.now a.code) c.loop-d.d c.loop-d.invariant
    (rw (made-is 4 _ c.new.ensures c.unwrap-d.ensures) at c.keep_eyes.ensures)

pub returns : goal.returns
unfolding four_eyes
returns c =
    let a = c.args in
    let e : c.loop-d.d ≡ 4 = omega arith in
    c.loop-d.invariant ∙ ap (λ (n : ℕ). gather n (eyes_in a.player a.board.now a.code)) e
