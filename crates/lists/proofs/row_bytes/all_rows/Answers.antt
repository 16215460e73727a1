-- `lists::row_bytes::all_rows` meets its contract: after as many turns the lines before are done. Assumes nothing.
use mathlib.Core.Path.{◌≡◌, ap, sym, ◌∙◌}
use Prim.Native.Nat.{ℕ}
use native.Mathlib.Omega.{arith}
use lib.ListN.{length}
use Rattle.std.proofs.lemmas.Option.{cond_some}
use Rattle.rules.specs.Tools.{gather}
use Rattle.rules.specs.Grid.{rows_of, key_rows}
use Rattle.grid.specs.Lines.{cells_of}
use Rattle.lent.proofs.Laws.{gather_none, gather_put, gather-length}
use Rattle.rules.specs.Point.{key_dir, key_no}
use Rattle.lists.proofs.Kept.{rows_short}
use Rattle.lists.proofs.row_bytes.all_rows.Goals as goal

pub loop-key-init : goal.loop-key-init
loop-key-init c =
    let a = c.args in
    c.new-list.ensures ∙ sym (gather_none (key_rows a.player a.kind (cells_of a.lines.now)))

pub keep_key-requires : goal.keep_key-requires
keep_key-requires c =
    let a = c.args in
    let on = c.loop-key-test.true in
    let few = gather-length 60 c.loop-key.key (key_rows a.player a.kind (cells_of a.lines.now)) (λ i l. rows_short _ _ _ (key_dir i) (key_no i) _) in
    (c.requires, omega (arith, ap length c.loop-key.invariant, few, on))

pub loop-key-preserved : goal.loop-key-preserved
loop-key-preserved c =
    let a = c.args in
    let key : c.unwrap-key.result ≡ c.loop-key.key = sym (cond_some _ _ _ (sym c.new.ensures ∙ c.unwrap-key.ensures)).1 in
    gather_put 4320 (key_rows a.player a.kind (cells_of a.lines.now)) c.loop-key.key c.loop-key.invariant (rw key at c.keep_key.ensures)

pub returns : goal.returns
unfolding rows_of
returns c =
    let a = c.args in
    let e : c.loop-key.key ≡ 72 = omega arith in
    c.loop-key.invariant ∙ ap (λ (n : ℕ). gather n (key_rows a.player a.kind (cells_of a.lines.now))) e
