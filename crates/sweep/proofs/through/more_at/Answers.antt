-- `sweep::through::more_at` meets its contract: rows in two of the four directions, or apart in one. Assumes nothing.
use Rattle.sweep.specs.Marks.{cells_if, marks_in}
use Rattle.sweep.proofs.Meeting.{says-more}
use Rattle.sweep.proofs.through.more_at.Goals as goal

pub returns : goal.returns
returns c =
    let a = c.args in
    let v = c.met_at-v.ensures in
    let h = c.met_at-h.ensures in
    let e = c.met_at-a.ensures in
    let d = c.met_at-d.ensures in
    says-more (cells_if a.five) (marks_in a.v.now a.h.now a.a.now a.d.now) a.i v.some h.some e.some d.some v.apart
    h.apart e.apart d.apart
