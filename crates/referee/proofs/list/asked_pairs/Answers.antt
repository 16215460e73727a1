-- `referee::list::asked_pairs` meets its contract: after a turn the points of the columns below x, and those below y in column x, are asked,
-- or known to be none. Assumes nothing.
use mathlib.Core.Path.{◌≡◌, refl, ap, sym, ◌∙◌}
use Prim.Native.Nat.{ℕ, ◌+◌, ◌*◌}
use native.Mathlib.Omega.{arith}
use native.Mathlib.Nat.{add-zero}
use Rattle.rules.specs.Tools.{gather}
use Rattle.rules.specs.Forbidden.{strict_of, entry, forbidden_list}
use Rattle.rules.proofs.Listed.{pairs-short}
use Rattle.lent.proofs.Laws.{gather_none, gather_kept, gather_passed}
use Rattle.referee.proofs.Bounded.{made}
use Rattle.referee.proofs.Swept.{column-passed, kind-entry, none-entry}
use Rattle.referee.proofs.list.asked_pairs.Goals.{then-not-is_none, else-not-is_none, then-bit_at+else-loop-y-test, else-bit_at}
use Rattle.referee.proofs.list.asked_pairs.Goals as goal

pub loop-x-init : goal.loop-x-init
loop-x-init c = (refl, c.new-found.ensures ∙ sym (gather_none _))

pub loop-y-init : goal.loop-y-init
loop-y-init c =
    (refl, c.loop-x.invariant.1 ∙ ap (λ (n : ℕ). gather n (λ q. entry (strict_of c.args.cells.now q) q)) (sym (add-zero (15 * c.loop-x.x))))

pub loop-y-preserved : goal.loop-y-preserved
loop-y-preserved c =
    let v = c.verdict_at-verdict.ensures in
    let C = c.args.cells.now in
    let p = 15 * c.loop-x.x + c.loop-y.y in
    let told = rw (made 225 p c.new.ensures c.unwrap-point.ensures) at v.0 in
    let f = λ (q : ℕ). entry (strict_of C q) q in
    let next = ap (λ (n : ℕ). gather n f) (let e : p + 1 ≡ 15 * c.loop-x.x + (c.loop-y.y + 1) = omega arith in e) in (
      v.1 ∙ c.loop-y.invariant.0,
      elim c.if-not-is_none.branch [
        | then-not-is_none w ↦ w.found-is ∙ gather_kept 450 f p c.loop-y.invariant.1 _ w.keep.ensures (let s = pairs-short C p in omega arith)
            (kind-entry p told c.is_none.ensures w.if-not-is_none.true w.number.ensures) ∙ next
        | else-not-is_none w ↦ w.found-is ∙ gather_passed 450 f p c.loop-y.invariant.1 refl
            (none-entry p told c.is_none.ensures w.if-not-is_none.false) ∙ next
      ],
    )

pub loop-x-preserved : goal.loop-x-preserved
loop-x-preserved c =
    let x = c.loop-x.x in
    let f = λ (q : ℕ). entry (strict_of c.args.cells.now q) q in (
      elim c.if-bit_at.branch [
        | then-bit_at+else-loop-y-test w ↦ w.lines-is ∙ w.loop-y.invariant.0 ∙ c.loop-x.invariant.0
        | else-bit_at w ↦ w.lines-is ∙ c.loop-x.invariant.0
      ],
      elim c.if-bit_at.branch [
        | then-bit_at+else-loop-y-test w ↦ w.found-is ∙ w.loop-y.invariant.1
            ∙ ap (λ (n : ℕ). gather n f) (let e : 15 * x + w.loop-y.y ≡ 15 * (x + 1) = omega arith in e)
        | else-bit_at w ↦ w.found-is ∙ c.loop-x.invariant.1
            ∙ sym (column-passed c.args.cells.now c.requires.0.long c.requires.2 c.requires.3 x c.loop-x-test.true
            (sym c.bit_at.ensures ∙ w.if-bit_at.false))
      ],
    )

pub returns : goal.returns
unfolding forbidden_list
returns c =
    c.loop-x.invariant.1
    ∙ ap (λ (n : ℕ). gather n (λ q. entry (strict_of c.args.cells.now q) q)) (let e : 15 * c.loop-x.x ≡ 225 = omega arith in e)
