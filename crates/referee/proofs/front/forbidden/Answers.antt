-- `referee::front::forbidden` meets its contract: refused, or asked on a local copy of the lines. Assumes nothing.
use mathlib.Core.Path.{ap, ◌∙◌}
use Rattle.rules.specs.Forbidden.{plain_of}
use Rattle.rules.proofs.Refusals.{unrefused}
use Rattle.board.specs.Boards.{cells}
use Rattle.referee.specs.Answers.{forbidden_refusal}
use Rattle.referee.proofs.Bounded.{made, can-make, told_at}
use Rattle.referee.proofs.Ruled.{forbidden-in}
use Rattle.referee.proofs.front.forbidden.Goals as goal

pub unwrap-requires : goal.unwrap-requires
unwrap-requires c =
    let a = c.args in
    let none = unrefused (forbidden_refusal a.board a.code) c.forbidden_refusal.ensures c.in_ok-forbidden_refusal.was in
    let ok = forbidden-in a.board a.code none in
    can-make 225 _ c.new.ensures ok.1

pub plain_on-requires : goal.plain_on-requires
plain_on-requires c =
    let a = c.args in
    let none = unrefused (forbidden_refusal a.board a.code) c.forbidden_refusal.ensures c.in_ok-forbidden_refusal.was in
    let ok = forbidden-in a.board a.code none in
    (ok.0, rw (made 225 a.code c.new.ensures c.unwrap.ensures) ok.2)

pub returns : goal.returns
returns c =
    let a = c.args in
    let none = unrefused (forbidden_refusal a.board a.code) c.forbidden_refusal.ensures c.in_ok-forbidden_refusal.was in
    told_at _ none (c.plain_on.ensures.0 ∙ ap (plain_of (cells a.board)) (made 225 a.code c.new.ensures c.unwrap.ensures))
