-- `cells::refusal::codes_refusal` meets its contract: the codes before this one are those of points. Assumes nothing.
use lib.Dec.{T, ltb}
use lib.ListN.{get_or}
use Rattle.rules.specs.Tools.{all_below}
use Rattle.cells.proofs.refusal.codes_refusal.Given as goal

abbrev pub invariant-loop-code : goal.invariant-loop-code
invariant-loop-code l = T (all_below l.code-index (λ n. ltb (get_or l.codes n 0) 225))
