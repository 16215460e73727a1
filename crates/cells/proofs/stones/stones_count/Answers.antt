-- `cells::stones::stones_count` meets its contract: it has the stones below i. Assumes nothing.
use mathlib.Core.Path.{◌≡◌, refl, ap, ap₂, ◌∙◌}
use mathlib.Core.Bool.{Bool}
use Prim.Native.Nat.{ℕ, ◌+◌, ◌≤◌}
use native.Mathlib.Omega.{arith}
use lib.Dec.{eqb}
use lib.ListN.{get_or}
use Rattle.rules.specs.Bit.{digit, count_of}
use Rattle.rules.proofs.Bits.{count-le}
use Rattle.cells.specs.Counts.{stones_count}
use Rattle.cells.proofs.Counts.{count-step, digit-le}
use Rattle.cells.proofs.stones.stones_count.Goals as goal

pub loop-i-init : goal.loop-i-init
unfolding count_of
loop-i-init c = refl

pub overflow_add-n : goal.overflow_add-n
overflow_add-n c =
    let tested : Bool = eqb (get_or c.args.cells.now c.loop-i.i 0) c.number-colour.result in
    let few : c.loop-i.n ≤ c.loop-i.i =
    omega (arith, c.loop-i.invariant, count-le c.loop-i.i (λ p. eqb (get_or c.args.cells.now p 0) c.number-colour.result)) in
    record { fits = omega (arith, few, c.loop-i-test.true, digit-le tested) }

pub loop-i-preserved : goal.loop-i-preserved
loop-i-preserved c =
    ap (λ (a : ℕ). a + digit (eqb (get_or c.args.cells.now c.loop-i.i 0) c.number-colour.result)) c.loop-i.invariant
    ∙ count-step c.loop-i.i (λ p. eqb (get_or c.args.cells.now p 0) c.number-colour.result)

pub returns : goal.returns
unfolding stones_count
returns c =
    let e : c.loop-i.i ≡ 225 = omega arith in
    c.loop-i.invariant
    ∙ ap₂ (λ (i v : ℕ). count_of i (λ p. eqb (get_or c.args.cells.now p 0) v)) e c.number-colour.ensures
