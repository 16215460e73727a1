-- `records::bytes::has_form` meets its contract: every byte before i fits. Assumes nothing.
use mathlib.Core.Path.{◌≡◌}
use mathlib.Core.Bool.{true}
use Rattle.rules.specs.Tools.{all_below}
use Rattle.records.specs.Records.{byte_at}
use Rattle.records.specs.Bytes.{form_fits}
use Rattle.records.proofs.bytes.has_form.Given as goal

abbrev pub invariant-loop-i : goal.invariant-loop-i
invariant-loop-i l = all_below l.i (λ j. form_fits (byte_at l.s j) (byte_at l.form j)) ≡ true
