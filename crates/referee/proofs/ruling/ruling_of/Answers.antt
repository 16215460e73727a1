-- `referee::ruling::ruling_of` meets its contract. Assumes nothing.
use mathlib.Core.Path.{ap, ◌∙◌}
use Rattle.rules.proofs.Refusals.{unrefused}
use Rattle.cells.specs.Cells.{cells_refusal_at}
use Rattle.cells.proofs.Given.{cells-at-in}
use Rattle.referee.specs.Answers.{ruling_of}
use Rattle.referee.proofs.Bounded.{made, can-make, told_at}
use Rattle.referee.proofs.ruling.ruling_of.Goals as goal

pub unwrap-requires : goal.unwrap-requires
unwrap-requires c =
    let a = c.args in
    let none = unrefused (cells_refusal_at a.cells.now a.code) c.cells_refusal_at.ensures c.in_ok-cells_refusal_at.was in
    let ok = cells-at-in a.cells.now a.code none in
    can-make 225 _ c.new.ensures ok.1

pub ruled_of-requires : goal.ruled_of-requires
ruled_of-requires c =
    let a = c.args in
    let none = unrefused (cells_refusal_at a.cells.now a.code) c.cells_refusal_at.ensures c.in_ok-cells_refusal_at.was in
    let ok = cells-at-in a.cells.now a.code none in
    ok.0

pub returns : goal.returns
returns c =
    let a = c.args in
    let none = unrefused (cells_refusal_at a.cells.now a.code) c.cells_refusal_at.ensures c.in_ok-cells_refusal_at.was in
    told_at _ none (c.ruled_of.ensures ∙ ap (ruling_of a.cells.now) (made 225 a.code c.new.ensures c.unwrap.ensures))
