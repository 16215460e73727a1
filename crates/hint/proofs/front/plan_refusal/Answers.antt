-- `hint::front::plan_refusal` meets its contract. Assumes nothing.
use mathlib.Core.Path.{sym, ◌∙◌}
use borrow.Author.Rules.{rules}
use Rattle.rules.proofs.Refusals.{none_first, unrefused}
use Rattle.hint.specs.Refused.{plan_refusal}
use Rattle.hint.proofs.Fronts.{told-first, told-second, told_so}
use Rattle.hint.proofs.front.plan_refusal.Goals as goal

pub returns-in_err-colour_refusal : goal.returns-in_err-colour_refusal
unfolding plan_refusal
returns-in_err-colour_refusal c =
    let none = unrefused _ c.cells_refusal.ensures c.in_ok-cells_refusal.was in
    told_so _ (told-first _ _ (told-first _ _ (told-second _ _ none (sym c.colour_refusal.ensures ∙ c.in_err-colour_refusal.was)))) (search rules)

pub returns-in_err-limit_refusal : goal.returns-in_err-limit_refusal
unfolding plan_refusal
returns-in_err-limit_refusal c =
    let none = none_first _ _ (unrefused _ c.cells_refusal.ensures c.in_ok-cells_refusal.was)
    (unrefused _ c.colour_refusal.ensures c.in_ok-colour_refusal.was) in
    told_so _ (told-first _ _ (told-second _ _ none (sym c.limit_refusal.ensures ∙ c.in_err-limit_refusal.was))) (search rules)
