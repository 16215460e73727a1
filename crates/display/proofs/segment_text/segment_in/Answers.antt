-- `display::segment_text::segment_in` meets its contract: after k turns the first k cells are written. Assumes nothing.
use mathlib.Core.Path.{◌≡◌, ap, sym, ◌∙◌}
use mathlib.Core.List.{◌++◌}
use Prim.Native.Nat.{ℕ}
use native.Mathlib.Omega.{arith}
use lib.ListN.{length}
use Rattle.rules.specs.Bit.{bit}
use Rattle.lent.proofs.Laws.{gather_none, gather_put, gather-length}
use Rattle.display.specs.Texts.{barred_cell, barred, values_of, segment_text}
use Rattle.display.proofs.Sizes.{barred-short}
use Rattle.display.proofs.segment_text.segment_in.Goals as goal

pub loop-k-init : goal.loop-k-init
loop-k-init c = c.new-text.ensures ∙ sym (gather_none _)

pub barred_into-requires : goal.barred_into-requires
barred_into-requires c =
    let value = values_of (bit c.args.blacks) (bit c.args.whites) in
    let e = ap length c.loop-k.invariant in
    let short = gather-length 2 c.loop-k.k (barred_cell value) (λ k h. barred-short k (value k)) in
    (omega arith, omega arith)

pub loop-k-preserved : goal.loop-k-preserved
loop-k-preserved c =
    let k = c.loop-k.k in
    gather_put 14 (barred_cell (values_of (bit c.args.blacks) (bit c.args.whites))) k c.loop-k.invariant
    (c.barred_into.ensures ∙ ap (λ (v : ℕ). c.loop-k.text ++ barred k v) c.cell_value.ensures)

pub returns : goal.returns
unfolding segment_text
returns c =
    let e : c.loop-k.k ≡ 7 = omega arith in
    rw e at c.loop-k.invariant
