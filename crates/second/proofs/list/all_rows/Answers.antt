-- `second::list::all_rows` meets its contract: after as many turns the lines of the keys below are done. Assumes nothing.
use mathlib.Core.Path.{◌≡◌, ap, sym, ◌∙◌}
use mathlib.Core.List.{List, ◌++◌}
use Prim.Native.Nat.{ℕ}
use native.Mathlib.Omega.{arith}
use lib.ListN.{length}
use Rattle.rules.specs.Tools.{gather}
use Rattle.rules.specs.Point.{key_dir, key_no, key_point}
use Rattle.rules.specs.Grid.{rows_of, key_rows, row_on}
use Rattle.lent.proofs.Laws.{gather_none, gather_put, gather-length}
use Rattle.second.proofs.Bounded.{made-is}
use Rattle.second.proofs.Gathered.{rows_short}
use Rattle.second.proofs.Keyed.{start-rows}
use Rattle.second.proofs.list.all_rows.Goals as goal

pub loop-key-init : goal.loop-key-init
loop-key-init c =
    let a = c.args in
    c.requires ∙ sym (gather_none (key_rows a.player a.kind a.board.now))

pub keep_rows-requires : goal.keep_rows-requires
keep_rows-requires c =
    let a = c.args in
    let on = c.loop-key-test.true in
    let few = gather-length 60 c.loop-key.key (key_rows a.player a.kind a.board.now)
    (λ k l. rows_short a.player a.kind a.board.now (key_dir k) (key_no k) (row_on a.player a.kind a.board.now (key_dir k) (key_no k))) in
    (omega arith, omega (arith, ap length c.loop-key.invariant, few, on))

pub loop-key-preserved : goal.loop-key-preserved
loop-key-preserved c =
    let a = c.args in
    let is = made-is 72 _ c.new.ensures c.unwrap-key.ensures in
    gather_put 4320 (key_rows a.player a.kind a.board.now) c.loop-key.key c.loop-key.invariant
    (c.keep_rows.ensures
    ∙ ap (λ (x : List ℕ). c.loop-key.list ++ x)
    (start-rows c.loop-key.key c.loop-key-test.true a.player a.kind a.board.now _ _
    (c.key_direction.ensures ∙ ap key_dir is) (c.first_point.ensures ∙ ap (λ (k : ℕ). key_point k 0) is)))

pub returns : goal.returns
unfolding rows_of
returns c =
    let a = c.args in
    let e : c.loop-key.key ≡ 72 = omega arith in
    c.loop-key.invariant ∙ ap (λ (n : ℕ). gather n (key_rows a.player a.kind a.board.now)) e
