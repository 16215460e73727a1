-- `sgf::token::name_length` meets its contract: the bytes below i are capital letters. Assumes nothing.
use mathlib.Core.Path.{ap, sym, ◌∙◌}
use mathlib.Core.Bool.{not}
use native.Mathlib.Omega.{arith}
use Rattle.lent.proofs.Found.{first-hit, first_step, first-end}
use Rattle.sgf.specs.Tokens.{capital, name_length}
use Rattle.sgf.proofs.token.name_length.Goals as goal

pub returns-then-not-is_capital : goal.returns-then-not-is_capital
unfolding name_length
returns-then-not-is_capital c =
    sym (c.loop-i.invariant ∙ first-hit _ c.args.s.now c.loop-i.i (omega arith)
    (ap not (sym c.is_capital.ensures ∙ c.if-not-is_capital.true)))

pub loop-i-preserved : goal.loop-i-preserved
unfolding name_length
loop-i-preserved c =
    c.loop-i.invariant ∙ first_step _ c.args.s.now c.loop-i.i (omega arith)
    (ap not (sym c.is_capital.ensures ∙ c.if-not-is_capital.false))

pub returns : goal.returns
unfolding name_length
returns c =
    let e = first-end (λ b. not (capital b)) c.args.s.now c.loop-i.i (omega arith) in
    let i = c.loop-i.invariant in
    omega (arith, i, e)
