-- `display::diagram::diagram_in` meets its contract: after k turns the first k rows are written. Assumes nothing.
use mathlib.Core.Path.{◌≡◌, ap, sym, ◌∙◌}
use native.Mathlib.Omega.{arith}
use lib.ListN.{length}
use Rattle.lent.proofs.Laws.{gather_none, gather_put, gather-length}
use Rattle.display.specs.Texts.{plain_row, diagram_of}
use Rattle.display.proofs.Sizes.{plain-row-short}
use Rattle.display.proofs.diagram.diagram_in.Goals as goal

pub loop-k-init : goal.loop-k-init
loop-k-init c = c.new-text.ensures ∙ sym (gather_none (plain_row c.args.cells.now))

pub plain_row_into-requires : goal.plain_row_into-requires
plain_row_into-requires c =
    let cells = c.args.cells.now in
    let e = ap length c.loop-k.invariant in
    let short = gather-length 31 c.loop-k.k (plain_row cells) (λ k h. plain-row-short cells k) in
    (omega arith, (omega arith, c.loop-k-test.true))

pub loop-k-preserved : goal.loop-k-preserved
loop-k-preserved c = gather_put 465 (plain_row c.args.cells.now) c.loop-k.k c.loop-k.invariant c.plain_row_into.ensures

pub returns : goal.returns
unfolding diagram_of
returns c =
    let e : c.loop-k.k ≡ 15 = omega arith in
    rw e at c.loop-k.invariant
