-- `lists::row_bytes::rows_through` meets its contract: after as many turns the lines before are done. Assumes nothing.
use mathlib.Core.Path.{◌≡◌, ap, sym, ◌∙◌}
use Prim.Native.Nat.{ℕ}
use native.Mathlib.Omega.{arith}
use lib.ListN.{length}
use Rattle.std.proofs.lemmas.Option.{cond_some}
use Rattle.rules.specs.Tools.{gather}
use Rattle.rules.specs.Grid.{rows_on_point, rows_in}
use Rattle.grid.specs.Lines.{cells_of}
use Rattle.lent.proofs.Laws.{gather_none, gather_put, gather-length}
use Rattle.rules.specs.Point.{line_no}
use Rattle.lists.proofs.Kept.{rows_short}
use Rattle.lists.proofs.row_bytes.rows_through.Goals as goal

pub loop-d-init : goal.loop-d-init
loop-d-init c =
    let a = c.args in
    c.new-list.ensures ∙ sym (gather_none (rows_in a.player a.kind (cells_of a.lines.now) a.code))

pub keep_rows_along-requires : goal.keep_rows_along-requires
keep_rows_along-requires c =
    let a = c.args in
    let on = c.loop-d-test.true in
    let few = gather-length 60 c.loop-d.d (rows_in a.player a.kind (cells_of a.lines.now) a.code) (λ i l. rows_short _ _ _ i (line_no i a.code) _) in
    (c.requires, omega (arith, ap length c.loop-d.invariant, few, on))

pub loop-d-preserved : goal.loop-d-preserved
loop-d-preserved c =
    let a = c.args in
    let way : c.unwrap-way.result ≡ c.loop-d.d = sym (cond_some _ _ _ (sym c.new.ensures ∙ c.unwrap-way.ensures)).1 in
    gather_put 240 (rows_in a.player a.kind (cells_of a.lines.now) a.code) c.loop-d.d c.loop-d.invariant
    (rw way at c.keep_rows_along.ensures)

pub returns : goal.returns
unfolding rows_on_point
returns c =
    let a = c.args in
    let e : c.loop-d.d ≡ 4 = omega arith in
    c.loop-d.invariant ∙ ap (λ (n : ℕ). gather n (rows_in a.player a.kind (cells_of a.lines.now) a.code)) e
