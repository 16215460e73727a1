-- `cells::refusal::all_small` meets its contract: the greatest byte so far is at most the limit where each is. Assumes nothing.
use mathlib.Core.Path.{◌≡◌}
use lib.Dec.{leb}
use lib.ListN.{get_or}
use Rattle.rules.specs.Tools.{all_below}
use Rattle.cells.proofs.refusal.all_small.Given as goal

abbrev pub invariant-loop-byte : goal.invariant-loop-byte
invariant-loop-byte l = leb l.most l.limit ≡ all_below l.byte-index (λ p. leb (get_or l.bytes p 0) l.limit)
