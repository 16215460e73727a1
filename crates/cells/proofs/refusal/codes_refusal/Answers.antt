-- `cells::refusal::codes_refusal` meets its contract: the codes before this one are those of points. Assumes nothing.
use mathlib.Core.Path.{◌≡◌, ◌∙◌}
use lib.Dec.{ltb, lt→ltb}
use lib.ListN.{get_or}
use Rattle.rules.specs.Tools.{all_below}
use Rattle.rules.proofs.Logic.{all_more}
use Rattle.point.proofs.Refused.{code_in}
use borrow.Author.Rules.{rules}
use Rattle.rules.proofs.Refusals.{unrefused}
use Rattle.cells.proofs.Given.{first_refused}
use Rattle.cells.proofs.refusal.codes_refusal.Goals as goal

pub loop-code-init : goal.loop-code-init
unfolding all_below
loop-code-init c = tt

pub returns-in_err-code_refusal : goal.returns-in_err-code_refusal
returns-in_err-code_refusal c =
    let same : c.from_residual.result ≡ c.code_refusal.result = search rules in
    same ∙ first_refused c.args.codes.now c.loop-code.code-index c.loop-code-test.true c.code_refusal.ensures c.in_err-code_refusal.was

pub loop-code-preserved : goal.loop-code-preserved
loop-code-preserved c =
    let codes = c.args.codes.now in
    all_more c.loop-code.code-index (λ n. ltb (get_or codes n 0) 225) c.loop-code.invariant
    (lt→ltb (get_or codes c.loop-code.code-index 0) 225 (code_in _ (unrefused _ c.code_refusal.ensures c.in_ok-code_refusal.was)))
