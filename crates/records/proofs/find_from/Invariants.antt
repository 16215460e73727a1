-- `records::find_from` meets its contract: what stands first from i on stands first from `from` on. Assumes nothing.
use mathlib.Core.Path.{◌≡◌}
use Rattle.records.specs.Records.{place_from}
use Rattle.records.proofs.find_from.Given as goal

abbrev pub invariant-loop-i : goal.invariant-loop-i
invariant-loop-i l = place_from l.s l.i l.d ≡ place_from l.s l.from l.d
