-- `canonical::order::less` meets its contract: what is left of both lists is compared as the whole. Assumes nothing.
use mathlib.Core.Path.{sym, ◌∙◌}
use native.Mathlib.Omega.{arith}
use Rattle.canonical.proofs.Ordered.{less-more, less-differ, less-short, less-end}
use Rattle.canonical.proofs.order.less.Goals as goal

pub returns-then-first-i : goal.returns-then-first-i
returns-then-first-i c =
    let a = c.args in
    sym (c.loop-i.invariant ∙ less-short a.first.now a.second.now c.loop-i.i (omega arith) (omega arith))

pub returns-then-first-i-2 : goal.returns-then-first-i-2
returns-then-first-i-2 c =
    let a = c.args in
    let differ = c.if-first-i-2.true in
    sym (c.loop-i.invariant ∙ less-differ a.first.now a.second.now c.loop-i.i (omega arith) (omega arith) differ)

pub loop-i-preserved : goal.loop-i-preserved
loop-i-preserved c =
    let a = c.args in
    c.loop-i.invariant ∙ less-more a.first.now a.second.now c.loop-i.i (omega arith) (omega arith) c.if-first-i-2.false

pub returns : goal.returns
returns c =
    let a = c.args in
    sym (c.loop-i.invariant ∙ less-end a.first.now a.second.now c.loop-i.i (omega arith))
