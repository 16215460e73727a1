-- `records::bytes::begins` meets its contract: the page is as wanted before i. Assumes nothing.
use mathlib.Core.Path.{◌≡◌}
use mathlib.Core.Bool.{true}
use lib.Dec.{eqb}
use Rattle.rules.specs.Tools.{all_below}
use Rattle.records.specs.Records.{byte_at}
use Rattle.records.specs.Bytes.{wanted_at}
use Rattle.records.proofs.bytes.begins.Given as goal

abbrev pub invariant-loop-i : goal.invariant-loop-i
invariant-loop-i l = all_below l.i (λ j. eqb (byte_at l.page j) (wanted_at l.wanted j)) ≡ true
