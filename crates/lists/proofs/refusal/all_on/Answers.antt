-- `lists::refusal::all_on` meets its contract: after k turns the bits below k are tested. Assumes nothing.
use mathlib.Core.Path.{◌≡◌, refl, sym, subst, ◌∙◌}
use mathlib.Core.Bool.{true, false}
use lib.Dec.{T}
use borrow.Author.Tests.{lt-ltb, le-ltb}
use Prim.Native.Nat.{◌+◌}
use Rattle.rules.specs.Tools.{all_below}
use Rattle.rules.proofs.Logic.{all-step, all-elim, not-intro, not-false}
use Rattle.lists.specs.Lists.{mask_cell}
use Rattle.lists.proofs.refusal.all_on.Goals as goal
use Rattle.lists.proofs.refusal.all_on.Goals.{else-bit_at-via-then-bit_at+else-size-j, else-bit_at-via-else-bit_at}

pub loop-k-init : goal.loop-k-init
unfolding all_below
loop-k-init c = refl

pub returns-then-size-j : goal.returns-then-size-j
returns-then-size-j c =
    let a = c.args in
    let k = c.loop-k.k in
    let f = mask_cell a.size a.j a.mask in
    let here : f k ≡ false = rw (sym c.bit_at.ensures ∙ c.if-bit_at.true, le-ltb (a.j + k) a.size c.if-size-j.true) in
    sym (not-false (not-intro (all_below 8 f) (λ t. subst T here (all-elim 8 f t k c.loop-k-test.true))))

pub loop-k-preserved : goal.loop-k-preserved
loop-k-preserved c =
    let a = c.args in
    let k = c.loop-k.k in
    let f = mask_cell a.size a.j a.mask in
    elim c.else-bit_at.branch [
      | else-bit_at-via-then-bit_at+else-size-j w ↦ (
          let here : f k ≡ true = rw (sym c.bit_at.ensures ∙ w.if-bit_at.true, lt-ltb (a.j + k) a.size w.if-size-j.false) in
          sym (all-step k f) ∙ rw (here, c.loop-k.invariant))
      | else-bit_at-via-else-bit_at w ↦ (
          let here : f k ≡ true = rw (sym c.bit_at.ensures ∙ w.if-bit_at.false) in
          sym (all-step k f) ∙ rw (here, c.loop-k.invariant))
    ]
