-- `mending::kept::first_ones` meets its contract: the codes before place i are kept. Assumes nothing.
use mathlib.Core.Path.{refl, sym, ◌∙◌}
use native.Mathlib.Omega.{arith}
use Rattle.mending.specs.Mending.{once_of}
use Rattle.mending.proofs.Moves.{seen-repeat, seen_more, seen_end}
use Rattle.mending.proofs.kept.first_ones.Goals as goal

pub loop-i-init : goal.loop-i-init
unfolding once_of
loop-i-init c = refl

pub returns-then-has : goal.returns-then-has
returns-then-has c =
    seen-repeat c.args.codes.now c.loop-i.i c.loop-i.invariant (omega arith) c.head.result.now c.head.ensures
    (sym c.has.ensures ∙ c.if-has.true)

pub loop-i-preserved : goal.loop-i-preserved
loop-i-preserved c =
    seen_more c.args.codes.now c.loop-i.i c.loop-i.invariant (omega arith) c.head.result.now c.head.ensures
    (sym c.has.ensures ∙ c.if-has.false)

pub returns : goal.returns
returns c =
    let e = seen_end c.args.codes.now c.loop-i.i c.loop-i.invariant (omega arith) (omega arith) in
    omega (arith, e)
