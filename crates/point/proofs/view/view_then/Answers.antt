-- `point::view::view_then` meets its contract: of two views the table has the view that equals one followed by the other. Assumes nothing.
use Rattle.rules.specs.Refusals.{view_refusal}
use Rattle.rules.specs.Answers.{answer}
use Rattle.rules.proofs.Refusals.{unrefused, none_first}
use Rattle.rules.proofs.Composed.{then-table}
use Rattle.point.proofs.Refused.{view_in}
use Rattle.point.proofs.view.view_then.Goals as goal

pub returns : goal.returns
unfolding answer
returns c =
    let a = c.args in
    let one = unrefused (view_refusal a.view) c.view_refusal.ensures c.in_ok-view_refusal.was in
    let two = unrefused (view_refusal a.next) c.view_refusal-2.ensures c.in_ok-view_refusal-2.was in
    let none = none_first (view_refusal a.view) (view_refusal a.next) one two in
    simp (none, c.followed.ensures, then-table a.view a.next (view_in a.view one) (view_in a.next two))
