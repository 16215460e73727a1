-- `hint::eyes::gap_from` meets its contract: the cells passed have stones. Assumes nothing.
use mathlib.Core.Path.{sym, ◌∙◌}
use native.Mathlib.Omega.{arith}
use borrow.Author.Count.{below_more}
use Rattle.rules.specs.Bit.{bit}
use Rattle.hint.proofs.Gaps.{gap-there, gap-last}
use Rattle.hint.proofs.eyes.gap_from.Goals as goal

pub returns-then-not-bit_at : goal.returns-then-not-bit_at
returns-then-not-bit_at c =
    rw (← c.get-j.ensures.value)
    (gap-there (bit c.args.stones) c.get-j.result c.loop-k.k (omega arith) c.loop-k.invariant
    (sym c.bit_at.ensures ∙ c.if-not-bit_at.true))

pub loop-k-preserved : goal.loop-k-preserved
loop-k-preserved c = below_more _ c.loop-k.k c.loop-k.invariant (sym c.bit_at.ensures ∙ c.if-not-bit_at.false)

pub returns : goal.returns
returns c =
    rw (← c.get-j.ensures.value) (gap-last (bit c.args.stones) c.get-j.result (λ i h. c.loop-k.invariant i (omega arith)))
