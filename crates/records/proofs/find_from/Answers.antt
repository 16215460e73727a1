-- `records::find_from` meets its contract: what stands first from i on stands first from `from` on. Assumes nothing.
use mathlib.Core.Path.{sym, ◌∙◌}
use native.Mathlib.Omega.{arith}
use Rattle.records.proofs.Laws.{place-past, place-stops, place-on}
use Rattle.records.proofs.find_from.Goals as goal

pub returns-then-s-i : goal.returns-then-s-i
returns-then-s-i c =
    sym (place-stops c.args.s.now c.loop-i.i c.args.d (omega arith) c.if-s-i.true) ∙ c.loop-i.invariant

pub loop-i-preserved : goal.loop-i-preserved
loop-i-preserved c =
    sym (place-on c.args.s.now c.loop-i.i c.args.d (omega arith) c.if-s-i.false) ∙ c.loop-i.invariant

pub returns : goal.returns
returns c = sym (place-past c.args.s.now c.loop-i.i c.args.d (omega arith)) ∙ c.loop-i.invariant
