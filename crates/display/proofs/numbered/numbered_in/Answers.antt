-- `display::numbered::numbered_in` meets its contract: after k turns the first k rows are written; then the letters of the columns.
-- Assumes nothing.
use mathlib.Core.Path.{◌≡◌, ap, sym, ◌∙◌}
use mathlib.Core.List.{List, ◌++◌}
use Prim.Native.Nat.{ℕ}
use native.Mathlib.Omega.{arith}
use lib.ListN.{length}
use Rattle.rules.specs.Tools.{gather}
use Rattle.lent.proofs.Laws.{gather_none, gather_put}
use Rattle.display.specs.Texts.{numbered_row, columns_text, numbered_of}
use Rattle.display.proofs.Sizes.{numbered-rows-length}
use Rattle.display.proofs.numbered.numbered_in.Goals as goal

pub loop-k-init : goal.loop-k-init
loop-k-init c = c.new-text.ensures ∙ sym (gather_none (numbered_row c.args.cells.now))

pub numbered_row_into-requires : goal.numbered_row_into-requires
numbered_row_into-requires c =
    let on = c.loop-k-test.true in
    let long = ap length c.loop-k.invariant ∙ numbered-rows-length c.args.cells.now c.loop-k.k (omega arith) in
    (omega arith, (omega arith, on))

pub loop-k-preserved : goal.loop-k-preserved
loop-k-preserved c = gather_put 527 (numbered_row c.args.cells.now) c.loop-k.k c.loop-k.invariant c.numbered_row_into.ensures

pub put-requires : goal.put-requires
put-requires c =
    let k = c.loop-k.k in
    let long = ap length c.loop-k.invariant ∙ numbered-rows-length c.args.cells.now k (omega arith) in
    (omega arith, omega arith)

pub returns : goal.returns
unfolding numbered_of columns_text gather
returns c =
    let e : c.loop-k.k ≡ 15 = omega arith in
    c.put.ensures ∙ ap (λ (l : List ℕ). l ++ columns_text) (rw e at c.loop-k.invariant)
