-- `line::bits::places_of` meets its contract: after j turns the set bits below j are kept. Assumes nothing.
use mathlib.Core.Path.{sym, ap, ◌∙◌, ◌≡◌}
use mathlib.Core.List.{[], ◌∷◌}
use Prim.Native.Nat.{ℕ}
use native.Mathlib.Omega.{arith}
use Rattle.rules.specs.Bit.{bit}
use Rattle.rules.specs.Tools.{gather}
use Rattle.lent.proofs.Laws.{gather_none, gather_kept, gather_passed}
use Rattle.line.specs.Lists.{bit_item, bit_list}
use Rattle.line.proofs.Lines.{bits-short}
use Rattle.line.proofs.bits.places_of.Goals as goal
use Rattle.line.proofs.bits.places_of.Goals.{then-bit_at, else-bit_at}

pub loop-j-init : goal.loop-j-init
loop-j-init c = c.new-places.ensures ∙ sym (gather_none (bit_item (bit c.args.m)))

pub loop-j-preserved : goal.loop-j-preserved
loop-j-preserved c =
    let f = bit_item (bit c.args.m) in
    let j = c.loop-j.j in
    let fit = bits-short (bit c.args.m) j in
    elim c.if-bit_at.branch [
      | then-bit_at w ↦
          gather_kept 16 f j c.loop-j.invariant (j ∷ []) (w.places-is ∙ w.keep.ensures) (omega arith)
          (rw (sym c.bit_at.ensures ∙ w.if-bit_at.true))
      | else-bit_at w ↦
          gather_passed 16 f j c.loop-j.invariant w.places-is (rw (sym c.bit_at.ensures ∙ w.if-bit_at.false))
    ]

pub returns : goal.returns
unfolding bit_list
returns c =
    let e : c.loop-j.j ≡ 16 = omega arith in
    c.loop-j.invariant ∙ ap (λ (n : ℕ). gather n (bit_item (bit c.args.m))) e
