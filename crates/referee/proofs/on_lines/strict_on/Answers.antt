-- `referee::on_lines::strict_on` meets its contract: refused, or asked on the same lines. Assumes nothing.
use mathlib.Core.Path.{ap, ◌∙◌}
use Rattle.rules.specs.Forbidden.{strict_of}
use Rattle.rules.proofs.Refusals.{unrefused}
use Rattle.grid.specs.Lines.{cells_of}
use Rattle.board.specs.Boards.{board_with, refusal_at}
use Rattle.board.proofs.Given.{at_in}
use Rattle.referee.proofs.Bounded.{made, can-make, told_at}
use Rattle.referee.proofs.on_lines.strict_on.Goals as goal

pub unwrap-requires : goal.unwrap-requires
unwrap-requires c =
    let a = c.args in
    let b = board_with a.lines.now a.blacks a.whites in
    let ok = at_in b a.code (unrefused (refusal_at b a.code) c.refusal_at.ensures c.in_ok-refusal_at.was) in
    can-make 225 _ c.new.ensures ok.1

pub strict-requires : goal.strict-requires
strict-requires c =
    let a = c.args in
    let b = board_with a.lines.now a.blacks a.whites in
    let ok = at_in b a.code (unrefused (refusal_at b a.code) c.refusal_at.ensures c.in_ok-refusal_at.was) in
    ok.0

pub returns : goal.returns
returns c =
    let a = c.args in
    let b = board_with a.lines.now a.blacks a.whites in
    let none = unrefused (refusal_at b a.code) c.refusal_at.ensures c.in_ok-refusal_at.was in
    let same = made 225 a.code c.new.ensures c.unwrap.ensures in
    (told_at _ none (c.strict.ensures.0 ∙ ap (strict_of (cells_of a.lines.now)) same), c.strict.ensures.1)
