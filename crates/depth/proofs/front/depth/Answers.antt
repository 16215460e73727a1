-- `depth::front::depth` meets its contract: refused, or asked on a local copy of the lines. Assumes nothing.
use mathlib.Core.Path.{ap, ◌∙◌}
use Rattle.rules.specs.Depth.{depth_of}
use Rattle.rules.proofs.Refusals.{unrefused}
use Rattle.board.specs.Boards.{cells, refusal_at}
use Rattle.board.proofs.Given.{at_in}
use Rattle.referee.proofs.Bounded.{made, can-make, told_at}
use Rattle.depth.proofs.front.depth.Goals as goal

pub unwrap-requires : goal.unwrap-requires
unwrap-requires c =
    let a = c.args in
    let ok = at_in a.board a.code (unrefused (refusal_at a.board a.code) c.refusal_at.ensures c.in_ok-refusal_at.was) in
    can-make 225 _ c.new.ensures ok.1

pub depth_on-requires : goal.depth_on-requires
depth_on-requires c =
    let a = c.args in
    let ok = at_in a.board a.code (unrefused (refusal_at a.board a.code) c.refusal_at.ensures c.in_ok-refusal_at.was) in
    ok.0

pub returns : goal.returns
returns c =
    let a = c.args in
    let none = unrefused (refusal_at a.board a.code) c.refusal_at.ensures c.in_ok-refusal_at.was in
    told_at _ none (c.depth_on.ensures.0 ∙ ap (depth_of (cells a.board)) (made 225 a.code c.new.ensures c.unwrap.ensures))
