-- `report::lines::lines_into` meets its contract: after i turns the first i lines are written. Assumes nothing.
use mathlib.Core.Path.{◌≡◌, ap, sym, ◌∙◌}
use native.Mathlib.Omega.{arith}
use lib.ListN.{length}
use Rattle.lent.proofs.Laws.{gather_none, gather_put}
use Rattle.report.specs.Listing.{pair_text, lines_text}
use Rattle.report.proofs.Words.{lines_short}
use Rattle.report.proofs.lines.lines_into.Goals as goal

pub loop-i-init : goal.loop-i-init
loop-i-init c = c.requires.1 ∙ sym (gather_none (pair_text c.args.pairs.now))

pub line_into-requires : goal.line_into-requires
line_into-requires c =
    let e = ap length c.loop-i.invariant in
    omega (arith, lines_short c.args.pairs.now c.loop-i.i, c.requires.0)

pub loop-i-preserved : goal.loop-i-preserved
loop-i-preserved c = gather_put 3840 (pair_text c.args.pairs.now) c.loop-i.i c.loop-i.invariant c.line_into.ensures

pub returns : goal.returns
unfolding lines_text
returns c =
    let e : c.loop-i.i ≡ c.args.count = omega arith in
    rw e at c.loop-i.invariant
