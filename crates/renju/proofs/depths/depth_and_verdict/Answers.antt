-- `renju::depths::depth_and_verdict` meets its contract. Assumes nothing.
use mathlib.Core.Path.{ap, ◌∙◌}
use Prim.Native.Nat.{ℕ, ◌+◌, ◌*◌}
use borrow.Author.Rules.{rules}
use Rattle.rules.specs.Numbers.{verdict_no}
use Rattle.rules.proofs.Refusals.{answered}
use Rattle.depth.specs.declared.front.DepthAnswer.{DepthAnswer}
use Rattle.renju.proofs.Words.{told_err, told_ok, same_ok}
use Rattle.renju.proofs.depths.depth_and_verdict.Goals as goal

pub returns-in_err-asked : goal.returns-in_err-asked
returns-in_err-asked c = told_err _ _ _ c.strict_depth_of.ensures c.in_err-asked.was (search rules)

pub returns : goal.returns
returns c =
    let is = (answered _ _ c.strict_depth_of.ensures c.in_ok-asked.was).1 in
    let same = ap (λ (n : ℕ). 256 * c.in_ok-asked.asked.depth + n) c.number.ensures
    ∙ ap (λ (a : DepthAnswer). 256 * a.depth + verdict_no a.verdict) is in
    same_ok _ same (told_ok _ _ _ c.strict_depth_of.ensures c.in_ok-asked.was)
