-- `lent::slices::find` meets its contract: no byte below i is the one looked for. Assumes nothing.
use mathlib.Core.Path.{sym, ◌∙◌}
use native.Mathlib.Omega.{arith}
use lib.Dec.{eqb}
use borrow.Author.Tests.{eq-eqb, ne_eqb}
use Rattle.lent.proofs.Found.{first-hit, first_step, first-end}
use Rattle.lent.proofs.slices.find.Goals as goal

pub returns-then-s-i : goal.returns-then-s-i
returns-then-s-i c =
    sym (c.loop-i.invariant ∙ first-hit _ c.args.s.now c.loop-i.i (omega arith) (eq-eqb _ _ c.if-s-i.true))

pub loop-i-preserved : goal.loop-i-preserved
loop-i-preserved c =
    c.loop-i.invariant ∙ first_step _ c.args.s.now c.loop-i.i (omega arith) (ne_eqb _ _ c.if-s-i.false)

pub returns : goal.returns
returns c =
    let e = first-end (λ b. eqb b c.args.d) c.args.s.now c.loop-i.i (omega arith) in
    omega (arith, c.loop-i.invariant, e)
