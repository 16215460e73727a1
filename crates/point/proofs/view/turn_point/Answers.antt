-- `point::view::turn_point` meets its contract: the code of a turned point fits. Assumes nothing.
use native.Mathlib.Omega.{arith}
use Rattle.rules.specs.Refusals.{code_refusal, view_refusal}
use Rattle.rules.proofs.Refusals.{unrefused}
use Rattle.rules.proofs.Turns.{turn-lt}
use Rattle.point.proofs.Refused.{code_in, view_in}
use Rattle.point.proofs.view.turn_point.Goals as goal

pub overflow_cast-result : goal.overflow_cast-result
overflow_cast-result c =
    let a = c.args in
    let p = code_in a.code (unrefused (code_refusal a.code) c.code_refusal.ensures c.in_ok-code_refusal.was) in
    let v = view_in a.view (unrefused (view_refusal a.view) c.view_refusal.ensures c.in_ok-view_refusal.was) in
    omega (arith, c.turned.ensures, turn-lt a.view a.code v p)
