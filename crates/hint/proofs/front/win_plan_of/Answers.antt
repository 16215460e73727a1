-- `hint::front::win_plan_of` meets its contract. Assumes nothing.
use mathlib.Core.Path.{sym, ap, ◌∙◌}
use lib.ListN.{length}
use Rattle.rules.proofs.Refusals.{unrefused}
use Rattle.rules.specs.declared.Player.{Player}
use Rattle.cells.proofs.Kept.{handed_codes}
use Rattle.hint.specs.Planner.{plan_of}
use Rattle.hint.proofs.Fronts.{plan-cells, plan-limit}
use Rattle.hint.proofs.front.win_plan_of.Goals as goal

pub planned-line-requires : goal.planned-line-requires
planned-line-requires c =
    let a = c.args in
    let none = unrefused _ c.plan_refusal.ensures c.in_ok-plan_refusal.was in
    (plan-cells a.cells.now a.colour a.limit a.out.now none, plan-limit a.cells.now a.colour a.limit a.out.now none)

pub returns : goal.returns
returns c =
    let a = c.args in
    let none = unrefused _ c.plan_refusal.ensures c.in_ok-plan_refusal.was in
    let listed = c.as_slice.ensures.value in
    handed_codes _ _ _ none (listed ∙ c.planned-line.ensures ∙ ap (λ (r : Player). plan_of r a.limit a.cells.now) c.or_white.ensures)
    (c.len.ensures.value ∙ sym (ap length listed)) c.hand_out.ensures
