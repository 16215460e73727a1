-- `point::key::line_key` meets its contract: there are at most 29 lines. Assumes nothing.
use native.Mathlib.Omega.{arith}
use Rattle.rules.specs.Refusals.{line_no_refusal}
use Rattle.rules.proofs.Refusals.{unrefused}
use Rattle.point.proofs.Refused.{line-in, lines-le}
use Rattle.point.proofs.key.line_key.Goals as goal

pub key_of-requires : goal.key_of-requires
key_of-requires c =
    let a = c.args in
    let h = line-in a.d a.i (unrefused (line_no_refusal a.d a.i) c.line_refusal.ensures c.in_ok-line_refusal.was) in
    omega (arith, lines-le a.d, h.1)
