-- `text::bytes::is_low` meets its contract: the bytes that were read are below 128. Assumes nothing.
use lib.Dec.{T, ltb}
use lib.ListN.{get_or}
use Rattle.rules.specs.Tools.{all_below}
use Rattle.text.proofs.bytes.is_low.Given as goal

abbrev pub invariant-loop-b : goal.invariant-loop-b
invariant-loop-b l = T (all_below l.b-index (λ n. ltb (get_or l.s n 0) 128))
