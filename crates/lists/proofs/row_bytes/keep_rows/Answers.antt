-- `lists::row_bytes::keep_rows` meets its contract: after j turns the starts below j are looked at. Assumes nothing.
use mathlib.Core.Path.{◌≡◌, ap, sym, ◌∙◌}
use mathlib.Core.List.{[], ◌∷◌, ◌++◌, append-nil}
use Prim.Native.Nat.{ℕ}
use native.Mathlib.Omega.{arith}
use lib.Bits.{bit_and}
use lib.ListN.{length, length-append}
use Rattle.rules.specs.Tools.{gather}
use Rattle.rules.specs.Bit.{bit}
use Rattle.rules.specs.Line.{stones_mask, eyes_mask}
use Rattle.rules.specs.Point.{key_size}
use Rattle.rules.proofs.Address.{key_size-le}
use Rattle.lent.proofs.Laws.{short}
use Rattle.cells.proofs.Kept.{behind_kept, behind_passed}
use Rattle.lists.specs.Lists.{row_item, row_list}
use Rattle.lists.proofs.Shown.{five-eyes}
use Rattle.lists.proofs.row_bytes.keep_rows.Goals as goal
use Rattle.lists.proofs.row_bytes.keep_rows.Goals.{then-bit_at, else-bit_at}

pub loop-j-init : goal.loop-j-init
unfolding gather
loop-j-init g c = sym (append-nil c.args.list.now)

pub loop-j-preserved : goal.loop-j-preserved
loop-j-preserved g c =
    let a = c.args in
    let j = c.loop-j.j in
    let own = bit a.my in
    let other = bit a.op in
    let long = key_size a.key in
    let size = c.key_size-size.ensures in
    let top = key_size-le a.key in
    let on = c.loop-j-test.true in
    let f = row_item a.key own other a.kind (bit a.starts) in
    let all = ap length c.loop-j.invariant ∙ length-append a.list.now (gather j f) in
    let fit = short 4 (bit a.starts) (λ j. a.key ∷ j ∷ stones_mask own j ∷ eyes_mask long own other a.kind j ∷ [])
    (λ j. omega arith) j in
    elim c.if-bit_at.branch [
      | then-bit_at w ↦ (
          let eyes : bit_and w.five_from.result w.eye_cells.result ≡ eyes_mask long own other a.kind j =
          rw (w.five_from.ensures, w.eye_cells.ensures, c.empty_cells-empty.ensures, size)
          (five-eyes long own other a.kind j (omega (arith, top))) in
          w.list-is ∙ behind_kept _ a.list.now f j c.loop-j.invariant
          (a.key ∷ j ∷ w.five_from-stones.result ∷ bit_and w.five_from.result w.eye_cells.result ∷ []) w.keep.ensures
          (omega (arith, all, fit, size, top, on, c.requires))
          (rw (w.five_from-stones.ensures, eyes, sym c.bit_at.ensures ∙ w.if-bit_at.true)))
      | else-bit_at w ↦ behind_passed 0 a.list.now f j c.loop-j.invariant w.list-is (rw (sym c.bit_at.ensures ∙ w.if-bit_at.false))
    ]

pub returns : goal.returns
unfolding row_list
returns g c =
    let a = c.args in
    let e : c.loop-j.j ≡ key_size a.key = omega (arith, c.key_size-size.ensures) in
    c.loop-j.invariant ∙ ap (λ (n : ℕ). a.list.now ++ gather n (row_item a.key (bit a.my) (bit a.op) a.kind (bit a.starts))) e
