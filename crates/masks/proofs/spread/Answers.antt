-- `masks::spread` meets its contract: after k turns the starts are spread over the cells below k. Assumes nothing.
use mathlib.Core.Path.{◌≡◌, ap, ap₂, ◌∙◌}
use Prim.Native.Nat.{ℕ}
use native.Mathlib.Omega.{arith}
use lib.Bits.{bit_or}
use Rattle.std.proofs.lemmas.Nat.{or_comm}
use Rattle.rules.specs.Bit.{bit, mask_of}
use Rattle.rules.specs.Tools.{any_below}
use Rattle.rules.specs.Line.{spread_at}
use Rattle.rules.proofs.Bits.{mask-or}
use Rattle.masks.proofs.Windows.{spreads, spread_none, spread-more}
use Rattle.masks.proofs.spread.Goals as goal

pub loop-k-init : goal.loop-k-init
loop-k-init c = spread_none (spreads (bit c.args.starts) (bit c.args.cells))

pub loop-k-preserved : goal.loop-k-preserved
loop-k-preserved c =
    let a = c.args in
    or_comm c.loop-k.acc c.moved-acc.result ∙ ap₂ bit_or c.moved-acc.ensures c.loop-k.invariant ∙ mask-or 16 _ _ ∙ spread-more (spreads (bit a.starts) (bit a.cells)) _

pub returns : goal.returns
unfolding spread_at
returns c =
    let e : c.loop-k.k ≡ 8 = omega arith in
    c.loop-k.invariant ∙ ap
    (λ (k : ℕ). mask_of 16
    (λ i. any_below k (spreads (bit c.args.starts) (bit c.args.cells) i))) e
