-- `line::Line::windows_at` meets its contract: after j turns the starts below j are kept with their segments. Assumes nothing.
use mathlib.Core.Path.{sym, ap, ◌∙◌, ◌≡◌}
use mathlib.Core.List.{[], ◌∷◌}
use Prim.Native.Nat.{ℕ}
use native.Mathlib.Omega.{arith}
use Rattle.rules.specs.Bit.{bit}
use Rattle.rules.specs.Tools.{gather}
use Rattle.lent.proofs.Laws.{gather_none, gather_kept, gather_passed}
use Rattle.line.specs.Lists.{window_item, window_list}
use Rattle.line.proofs.Lines.{windows-short}
use Rattle.line.proofs.line.Line.windows_at.Goals as goal
use Rattle.line.proofs.line.Line.windows_at.Goals.{then-bit_at, else-bit_at}

pub loop-j-init : goal.loop-j-init
loop-j-init c =
    let a = c.args in
    c.new-windows.ensures ∙ sym (gather_none (window_item (bit a.self.blacks) (bit a.self.whites) (bit a.starts)))

pub loop-j-preserved : goal.loop-j-preserved
loop-j-preserved c =
    let a = c.args in
    let f = window_item (bit a.self.blacks) (bit a.self.whites) (bit a.starts) in
    let j = c.loop-j.j in
    let fit = windows-short (bit a.self.blacks) (bit a.self.whites) (bit a.starts) j in
    elim c.if-bit_at.branch [
      | then-bit_at w ↦
          gather_kept 48 f j c.loop-j.invariant (j ∷ w.segment_bits.result ∷ w.segment_bits-then-bit_at.result ∷ []) (w.windows-is ∙ w.keep.ensures)
          (omega arith) (rw (sym c.bit_at.ensures ∙ w.if-bit_at.true, w.segment_bits.ensures, w.segment_bits-then-bit_at.ensures))
      | else-bit_at w ↦
          gather_passed 48 f j c.loop-j.invariant w.windows-is (rw (sym c.bit_at.ensures ∙ w.if-bit_at.false))
    ]

pub returns : goal.returns
unfolding window_list
returns c =
    let a = c.args in
    let e : c.loop-j.j ≡ 16 = omega arith in
    c.loop-j.invariant ∙ ap (λ (n : ℕ). gather n (window_item (bit a.self.blacks) (bit a.self.whites) (bit a.starts))) e
