-- `text::line_text::line_in` meets its contract: so many cells are read, and the bytes that are left have the others. Assumes nothing.
use mathlib.Core.Path.{◌≡◌, refl, sym, ◌∙◌}
use mathlib.Core.List.{List, ◌∷◌}
use Prim.Native.Nat.{ℕ, ◌+◌}
use native.Mathlib.Omega.{arith}
use borrow.Author.Rules.{rules}
use borrow.Author.Tests.{ltb-true, ltb-false}
use lib.Dec.{ltb}
use lib.ListN.{get_or, drop}
use Rattle.rules.specs.declared.refusal.Refusal.TheVariants.{OverLength}
use Rattle.text.specs.Bytes.{small_o, small_x, dense}
use Rattle.text.proofs.Told.{test_err, test_ok}
use Rattle.text.proofs.Dense.{dense-space, dense-cell, dense-end, next-in, next-is, next-rest}
use Rattle.text.proofs.Marks.{marked-none, marked_more, line-said, line-long}
use Rattle.text.proofs.line_text.line_in.Goals.{then-not-is_space+in_ok-unless, else-not-is_space}
use Rattle.text.proofs.line_text.line_in.Goals as goal

pub loop-b-init : goal.loop-b-init
loop-b-init c =
    let d = dense c.args.s.now in
    (omega arith, omega arith, refl, marked-none d small_o, marked-none d small_x)

pub returns-in_err-unless : goal.returns-in_err-unless
returns-in_err-unless c =
    let s = c.args.s.now in
    let i = c.loop-b.b-index in
    let e = sym c.loop-b.invariant.2 ∙ dense-cell s i (omega arith) (sym c.is_space.ensures ∙ c.if-not-is_space.true) in
    let n = next-in 0 (dense s) c.loop-b.size (get_or s i 0) (dense (drop (i + 1) s)) e in
    let f = test_err (ltb c.loop-b.size 15) OverLength c.in_err-unless.field-0.0 (sym c.in_err-unless.was ∙ c.unless.ensures) in
    let h = ltb-false c.loop-b.size 15 f.0 in
    let told = line-long s (omega arith) in
    rw (← told) (search rules)

pub loop-b-preserved : goal.loop-b-preserved
loop-b-preserved c =
    let s = c.args.s.now in
    let v = c.loop-b.invariant in
    let i = c.loop-b.b-index in
    let x = c.loop-b.size in
    elim c.if-not-is_space.branch [
      | then-not-is_space+in_ok-unless w ↦
          let e = sym v.2 ∙ dense-cell s i (omega arith) (sym c.is_space.ensures ∙ w.if-not-is_space.true) in
          let at = next-is 0 (dense s) x (get_or s i 0) (dense (drop (i + 1) s)) e in
          let n = next-in 0 (dense s) x (get_or s i 0) (dense (drop (i + 1) s)) e in
          let h = ltb-true x 15 (test_ok (ltb x 15) OverLength (sym w.in_ok-unless.was ∙ w.unless.ensures)) in
          rw (w.size-is, w.blacks-is, w.whites-is) (
            omega arith,
            omega arith,
            sym (next-rest 0 (dense s) x (get_or s i 0) (dense (drop (i + 1) s)) e),
            w.set_bit-blacks.ensures ∙ rw v.3 (marked_more x small_o (dense s) (get_or s i 0) at),
            w.set_bit-whites.ensures ∙ rw v.4 (marked_more x small_x (dense s) (get_or s i 0) at),
          )
      | else-not-is_space w ↦
          let e = dense-space s i (omega arith) (sym c.is_space.ensures ∙ w.if-not-is_space.false) in
          rw (w.size-is, w.blacks-is, w.whites-is) (v.0, v.1, sym e ∙ v.2, v.3, v.4)
    ]

pub returns : goal.returns
returns c =
    let s = c.args.s.now in
    let v = c.loop-b.invariant in
    line-said s c.loop-b.size c.loop-b.blacks c.loop-b.whites v.0 v.1 (sym (dense-end s c.loop-b.b-index (omega arith)) ∙ v.2) v.3 v.4
