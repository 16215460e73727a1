-- `lists::codes::four_eyes` meets its contract: after as many turns the lines before are done. Assumes nothing.
use mathlib.Core.Path.{◌≡◌, ap, sym, ◌∙◌}
use Prim.Native.Nat.{ℕ}
use native.Mathlib.Omega.{arith}
use lib.ListN.{length}
use Rattle.std.proofs.lemmas.Option.{cond_some}
use Rattle.rules.specs.Tools.{gather}
use Rattle.rules.specs.Grid.{four_eyes, eyes_in}
use Rattle.grid.specs.Lines.{cells_of}
use Rattle.lent.proofs.Laws.{gather_none, gather_put, gather-length}
use Rattle.lists.proofs.Kept.{eyes-short}
use Rattle.lists.proofs.codes.four_eyes.Goals as goal

pub loop-d-init : goal.loop-d-init
loop-d-init c =
    let a = c.args in
    c.new-list.ensures ∙ sym (gather_none (eyes_in a.player (cells_of a.lines.now) a.code))

pub keep_eyes-requires : goal.keep_eyes-requires
keep_eyes-requires c =
    let a = c.args in
    let on = c.loop-d-test.true in
    let few = gather-length 15 c.loop-d.d (eyes_in a.player (cells_of a.lines.now) a.code) (λ i l. eyes-short _ _ _ i) in
    (c.requires, omega (arith, ap length c.loop-d.invariant, few, on))

pub loop-d-preserved : goal.loop-d-preserved
loop-d-preserved c =
    let a = c.args in
    let way : c.unwrap-way.result ≡ c.loop-d.d = sym (cond_some _ _ _ (sym c.new.ensures ∙ c.unwrap-way.ensures)).1 in
    gather_put 60 (eyes_in a.player (cells_of a.lines.now) a.code) c.loop-d.d c.loop-d.invariant (rw way at c.keep_eyes.ensures)

pub returns : goal.returns
unfolding four_eyes
returns c =
    let a = c.args in
    let e : c.loop-d.d ≡ 4 = omega arith in
    c.loop-d.invariant ∙ ap (λ (n : ℕ). gather n (eyes_in a.player (cells_of a.lines.now) a.code)) e
