-- `text::diagram::row_in` meets its contract: x cells are put, and the bytes that are left have the others. Assumes nothing.
use mathlib.Core.Path.{ap, sym, ◌∙◌}
use mathlib.Core.List.{List}
use Prim.Native.Nat.{ℕ, ◌+◌}
use native.Mathlib.Omega.{arith}
use lib.ListN.{length, drop}
use Rattle.text.specs.Bytes.{dense}
use Rattle.text.specs.Rows.{row_put}
use Rattle.text.proofs.Dense.{dense-space, dense-cell, dense-end}
use Rattle.text.proofs.Lined.{row_step, row-end}
use Rattle.text.proofs.diagram.row_in.Goals.{then-not-is_space, else-not-is_space}
use Rattle.text.proofs.diagram.row_in.Goals as goal

pub loop-b-preserved : goal.loop-b-preserved
loop-b-preserved c =
    let a = c.args in
    let v = c.loop-b.invariant in
    let i = c.loop-b.b-index in
    elim c.if-not-is_space.branch [
      | then-not-is_space w ↦
          let e = dense-cell a.s.now i (omega arith) (sym c.is_space.ensures ∙ w.if-not-is_space.true) in
          let n = ap length e in
          rw (w.x-is, w.cells-is) (
            omega arith,
            omega (arith, v.1),
            v.2 ∙ row_step a.k c.loop-b.x (dense (drop i a.s.now)) (dense (drop (i + 1) a.s.now)) _ c.loop-b.cells _ e w.put_letter.ensures,
          )
      | else-not-is_space w ↦
          let e = dense-space a.s.now i (omega arith) (sym c.is_space.ensures ∙ w.if-not-is_space.false) in
          rw (w.x-is, w.cells-is) (
            omega arith,
            v.1 ∙ ap (λ (l : List ℕ). c.loop-b.x + length l) e,
            v.2 ∙ ap (λ (l : List ℕ). row_put a.k c.loop-b.x l c.loop-b.cells) e,
          )
    ]

pub returns : goal.returns
returns c =
    let a = c.args in
    let v = c.loop-b.invariant in
    let e = dense-end a.s.now c.loop-b.b-index (omega arith) in
    let n = ap length e in
    (omega (arith, v.1), sym (v.2 ∙ row-end a.k c.loop-b.x (dense (drop c.loop-b.b-index a.s.now)) c.loop-b.cells e))
