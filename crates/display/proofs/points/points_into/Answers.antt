-- `display::points::points_into` meets its contract: after i turns the first i points are written. Assumes nothing.
use mathlib.Core.Path.{◌≡◌, refl, ap, ap₂, ◌∙◌}
use mathlib.Core.List.{List}
use Prim.Native.Nat.{ℕ, ◌+◌, ◌-◌}
use borrow.Rule.Slice.PartMut.{put_mid}
use native.Mathlib.Omega.{arith}
use lib.ListN.{length, length-append}
use Rattle.rules.specs.Tools.{gather}
use Rattle.lent.specs.Lists.{laid}
use Rattle.lent.proofs.Laws.{gather-more}
use Rattle.display.specs.Texts.{point_item, points_text}
use Rattle.display.proofs.Sizes.{part-fits}
use Rattle.display.proofs.Turns.{laid_more}
use Rattle.display.proofs.points.points_into.Goals as goal

pub loop-i-init : goal.loop-i-init
unfolding gather laid
loop-i-init c = (refl, refl)

pub overflow_add-end : goal.overflow_add-end
unfolding points_text
overflow_add-end c =
    let codes = c.args.codes.now in
    let k = c.len.ensures.value ∙ ap length c.item-text.ensures in
    let room = part-fits (point_item codes) c.loop-i.i (length codes) c.loop-i-test.true in
    omega (arith, c.requires, c.loop-i.invariant.0)

pub slice_bounds-copy_from_slice-end : goal.slice_bounds-copy_from_slice-end
unfolding points_text
slice_bounds-copy_from_slice-end c =
    let codes = c.args.codes.now in
    let k = c.len.ensures.value ∙ ap length c.item-text.ensures in
    let room = part-fits (point_item codes) c.loop-i.i (length codes) c.loop-i-test.true in
    let same = c.loop-i.auto.out in
    omega (arith, c.requires, c.loop-i.invariant.0)

pub loop-i-preserved : goal.loop-i-preserved
loop-i-preserved c =
    let f = point_item c.args.codes.now in
    let i = c.loop-i.i in
    let k = c.len.ensures.value ∙ ap length c.item-text.ensures in
    let e = ap length (gather-more i f) in
    let a = length-append (gather i f) (f i) in
    let same = c.copy_from_slice.ensures.after ∙ c.as_slice.ensures.value ∙ c.item-text.ensures in
    let end : c.loop-i.n + c.len.result ≡ c.loop-i.n + length (f i) = omega arith in (
      omega (arith, c.loop-i.invariant.0),
      ap₂ (λ (o s : List ℕ). put_mid c.loop-i.n (c.loop-i.n + c.len.result - c.loop-i.n) o s) c.loop-i.invariant.1 same
          ∙ laid_more c.args.out.now (gather i f) (f i) c.loop-i.n (c.loop-i.n + c.len.result) c.loop-i.invariant.0 end
          ∙ ap (laid c.args.out.now) (gather-more i f),
    )

pub returns : goal.returns
unfolding points_text
returns c =
    let e : c.loop-i.i ≡ length c.args.codes.now = omega arith in
    rw e at c.loop-i.invariant
