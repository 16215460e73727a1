-- `text::bytes::leading_space` meets its contract: the bytes below i are white space. Assumes nothing.
use mathlib.Core.Path.{ap, sym, ◌∙◌}
use mathlib.Core.Bool.{not}
use native.Mathlib.Omega.{arith}
use Rattle.lent.proofs.Found.{first-hit, first_step, first-end}
use Rattle.text.specs.Bytes.{space}
use Rattle.text.proofs.bytes.leading_space.Goals as goal

pub returns-then-not-is_space : goal.returns-then-not-is_space
returns-then-not-is_space c =
    sym (c.loop-i.invariant ∙ first-hit _ c.args.s.now c.loop-i.i (omega arith)
    (ap not (sym c.is_space.ensures ∙ c.if-not-is_space.true)))

pub loop-i-preserved : goal.loop-i-preserved
loop-i-preserved c =
    c.loop-i.invariant ∙ first_step _ c.args.s.now c.loop-i.i (omega arith) (ap not (sym c.is_space.ensures ∙ c.if-not-is_space.false))

pub returns : goal.returns
returns c =
    let e = first-end (λ b. not (space b)) c.args.s.now c.loop-i.i (omega arith) in
    omega (arith, c.loop-i.invariant, e)
