-- `sweep::marking::marked_columns` meets its contract: it has the columns that the masks so far mark. Assumes nothing.
use mathlib.Core.Path.{◌≡◌, ap, ◌∙◌}
use mathlib.Core.Bool.{Bool, ◌||◌}
use Prim.Native.Nat.{ℕ}
use native.Mathlib.Omega.{arith}
use lib.ListN.{get_or}
use Rattle.std.proofs.Math.Bool.{or_comm}
use Rattle.rules.specs.Tools.{any_below}
use Rattle.rules.specs.Bit.{bit, mask_of}
use Rattle.rules.proofs.Bits.{mask-ext, bit-or, bit_mask}
use Rattle.masks.proofs.Windows.{below, spread_none, spread-more}
use Rattle.sweep.proofs.marking.marked_columns.Goals as goal

pub loop-mask-init : goal.loop-mask-init
loop-mask-init c = spread_none (λ x i. bit (get_or c.args.marks.now i 0) x)

pub loop-mask-preserved : goal.loop-mask-preserved
loop-mask-preserved c =
    let m = c.args.marks.now in
    let i = c.loop-mask.mask-index in
    let k = c.loop-mask.columns in
    let n = get_or m i 0 in
    mask-ext 16 _ _ (search below)
    (λ x h.
    bit-or k n x ∙ or_comm (bit k x) (bit n x)
    ∙ ap (λ (b : Bool). bit n x || b) (ap (λ (n : ℕ). bit n x) c.loop-mask.invariant ∙ bit_mask 16 _ x h))
    ∙ spread-more (λ x i. bit (get_or m i 0) x) i

pub returns : goal.returns
returns c =
    let all : c.loop-mask.mask-index ≡ 26 = omega arith in
    c.loop-mask.invariant ∙ ap (λ (n : ℕ). mask_of 16 (λ x. any_below n (λ i. bit (get_or c.args.marks.now i 0) x))) all
