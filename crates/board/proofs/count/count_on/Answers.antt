-- `board::count::count_on` meets its contract: after x columns it has the stones of the points in them. Assumes nothing.
use mathlib.Core.Path.{◌≡◌, refl, ap, ◌∙◌}
use Prim.Native.Nat.{ℕ, ◌*◌, ◌-◌, ◌≤◌}
use native.Mathlib.Omega.{arith}
use Rattle.rules.specs.Bit.{bit, count_of}
use Rattle.rules.proofs.Bits.{count-le}
use Rattle.board.specs.Boards.{stones_shown}
use Rattle.board.proofs.Counted.{shown_at, shown-few, shown-step}
use Rattle.board.proofs.count.count_on.Goals as goal

pub loop-x-init : goal.loop-x-init
unfolding count_of
loop-x-init c = (omega arith, refl)

pub overflow_add-n : goal.overflow_add-n
overflow_add-n c =
    let a = c.args in
    let few = shown-few a.player a.lines.now c.loop-x.x c.loop-x.invariant.1 in
    let more : c.column_stones-n.result ≤ 15 = omega (arith, c.column_stones-n.ensures, count-le 15 (bit c.mask_on.result)) in
    omega (arith, few, more, c.loop-x.invariant.0, c.loop-x-test.true)

pub loop-x-preserved : goal.loop-x-preserved
loop-x-preserved c =
    let a = c.args in (
      omega arith,
      shown-step a.player a.lines.now c.loop-x.x c.loop-x.invariant.1
          (c.column_stones-n.ensures ∙ ap (λ (m : ℕ). count_of 15 (bit m)) c.mask_on.ensures),
    )

pub returns : goal.returns
unfolding stones_shown
returns c =
    let e : 15 * c.loop-x.x ≡ 225 = omega arith in
    c.loop-x.invariant.1 ∙ ap (λ (n : ℕ). count_of n (shown_at c.args.player c.args.lines.now)) e
