-- `lists::codes::keep_cells` meets its contract: after j turns the cells below j are looked at. Assumes nothing.
use mathlib.Core.Path.{◌≡◌, ap, sym, ◌∙◌}
use mathlib.Core.List.{[], ◌∷◌, ◌++◌, append-nil}
use Prim.Native.Nat.{ℕ}
use native.Mathlib.Omega.{arith}
use lib.ListN.{length, length-append}
use Rattle.rules.specs.Tools.{gather}
use Rattle.rules.specs.Bit.{bit}
use Rattle.rules.specs.Point.{line_size, point_at}
use Rattle.rules.proofs.Address.{size-le}
use Rattle.lent.proofs.Laws.{short}
use Rattle.cells.proofs.Kept.{behind_kept, behind_passed}
use Rattle.lists.specs.Lists.{cell_item, cell_list}
use Rattle.lists.proofs.codes.keep_cells.Goals as goal
use Rattle.lists.proofs.codes.keep_cells.Goals.{then-bit_at, else-bit_at}

pub loop-j-init : goal.loop-j-init
unfolding gather
loop-j-init c = sym (append-nil c.args.list.now)

pub code_at-requires : goal.code_at-requires
code_at-requires c =
    let end = rw c.get.ensures.value at c.line_size-j-end.ensures in
    (c.requires.0, omega (arith, end))

pub loop-j-preserved : goal.loop-j-preserved
loop-j-preserved c =
    let a = c.args in
    let j = c.loop-j.j in
    let f = cell_item a.d a.i (bit a.cells) in
    let long = ap length c.loop-j.invariant ∙ length-append a.list.now (gather j f) in
    let fit = short 1 (bit a.cells) (λ j. point_at a.d a.i j ∷ []) (λ j. omega arith) j in
    let top = size-le a.d a.i in
    let end = rw c.get.ensures.value at c.line_size-j-end.ensures in
    elim c.if-bit_at.branch [
      | then-bit_at w ↦ w.list-is ∙ behind_kept _ a.list.now f j c.loop-j.invariant (w.code_at.result ∷ []) w.keep.ensures
          (omega (arith, long, fit, top, c.loop-j-test.true, end, c.requires.1))
          (rw (w.code_at.ensures.0, sym c.bit_at.ensures ∙ w.if-bit_at.true))
      | else-bit_at w ↦ behind_passed 0 a.list.now f j c.loop-j.invariant w.list-is (rw (sym c.bit_at.ensures ∙ w.if-bit_at.false))
    ]

pub returns : goal.returns
unfolding cell_list
returns c =
    let a = c.args in
    let end = rw c.get.ensures.value at c.line_size-j-end.ensures in
    let e : c.loop-j.j ≡ line_size a.d a.i = omega (arith, end) in
    c.loop-j.invariant ∙ ap (λ (n : ℕ). a.list.now ++ gather n (cell_item a.d a.i (bit a.cells))) e
