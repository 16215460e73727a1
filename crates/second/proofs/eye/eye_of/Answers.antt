-- `second::eye::eye_of` meets its contract: the gap is the eye, and is on the line. Assumes nothing.
use mathlib.Core.Path.{ap, ◌∙◌}
use native.Mathlib.Omega.{arith}
use Rattle.rules.specs.Point.{line_no, point_at}
use Rattle.rules.specs.Forbidden.{eye_of}
use Rattle.rules.proofs.Gap.{gap-inside}
use Rattle.second.proofs.eye.eye_of.Goals as goal

pub point_along-requires : goal.point_along-requires
point_along-requires c =
    let a = c.args in rw c.first_gap.ensures (gap-inside a.board.now a.code a.d a.j (omega arith) (omega arith) c.requires)

pub returns : goal.returns
unfolding eye_of
returns c =
    let a = c.args in
    c.point_along.ensures ∙ ap (point_at a.d (line_no a.d a.code)) c.first_gap.ensures
