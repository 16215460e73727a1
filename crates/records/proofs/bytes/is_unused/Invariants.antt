-- `records::bytes::is_unused` meets its contract: `all` says whether each byte before this one is 255. Assumes nothing.
use mathlib.Core.Path.{◌≡◌}
use lib.Dec.{eqb}
use Rattle.rules.specs.Tools.{all_below}
use Rattle.records.specs.Records.{byte_at}
use Rattle.records.proofs.bytes.is_unused.Given as goal

abbrev pub invariant-loop-byte : goal.invariant-loop-byte
invariant-loop-byte l = l.all ≡ all_below l.byte-index (λ i. eqb (byte_at l.rest i) 255)
