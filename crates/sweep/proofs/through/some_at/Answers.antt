-- `sweep::through::some_at` meets its contract: a row in one of the four directions. Assumes nothing.
use Rattle.sweep.specs.Marks.{cells_if, marks_in}
use Rattle.sweep.proofs.Meeting.{says_some}
use Rattle.sweep.proofs.through.some_at.Goals as goal

pub returns : goal.returns
returns c =
    let a = c.args in
    says_some (cells_if a.five) (marks_in a.v.now a.h.now a.a.now a.d.now) a.i c.met_at.ensures.some
    c.met_at-2.ensures.some c.met_at-3.ensures.some c.met_at-4.ensures.some
