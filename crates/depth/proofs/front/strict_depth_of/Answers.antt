-- `depth::front::strict_depth_of` meets its contract: refused as the verdict is, or both are of the cells. Assumes nothing.
use mathlib.Core.Path.{ap}
use Rattle.rules.proofs.Refusals.{answered}
use Rattle.cells.specs.Cells.{cells_refusal_at}
use Rattle.cells.proofs.Given.{cells-at-in}
use Rattle.referee.specs.Answers.{ruling_of}
use Rattle.referee.specs.declared.ruling.Ruling.{Ruling}
use Rattle.referee.proofs.Bounded.{made, can-make}
use Rattle.depth.proofs.front.strict_depth_of.Goals as goal

pub unwrap-requires : goal.unwrap-requires
unwrap-requires c =
    let cells = c.args.cells.now in
    let p = c.args.code in
    let r = answered (cells_refusal_at cells p) (ruling_of cells p) c.ruling_of.ensures c.in_ok-ruling.was in
    let ok = cells-at-in cells p r.0 in
    can-make 225 _ c.new.ensures ok.1

pub ruled_depth-requires : goal.ruled_depth-requires
unfolding ruling_of
ruled_depth-requires c =
    let cells = c.args.cells.now in
    let p = c.args.code in
    let r = answered (cells_refusal_at cells p) (ruling_of cells p) c.ruling_of.ensures c.in_ok-ruling.was in
    let ok = cells-at-in cells p r.0 in
    (ok.0, rw (made 225 p c.new.ensures c.unwrap.ensures) (ap (λ (x : Ruling). x.lines) r.1))
