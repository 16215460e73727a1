-- `second::row_bytes::eyes_mask` meets its contract: five cells as a mask. Assumes nothing.
use Rattle.rules.specs.Line.{eyes_mask}
use Rattle.rules.specs.Point.{line_no}
use Rattle.rules.specs.Grid.{eye_on}
use Rattle.second.proofs.Gathered.{five-worth}
use Rattle.second.proofs.row_bytes.eyes_mask.Goals as goal

pub returns : goal.returns
unfolding eyes_mask eye_on
returns c =
    let a = c.args in
    rw (
      c.worth.ensures.0,
      c.is_eye.ensures,
      c.get.ensures.value,
      c.worth-2.ensures.0,
      c.is_eye-2.ensures,
      c.get-2.ensures.value,
      c.worth-3.ensures.0,
      c.is_eye-3.ensures,
      c.get-3.ensures.value,
      c.worth-4.ensures.0,
      c.is_eye-4.ensures,
      c.get-4.ensures.value,
      c.worth-5.ensures.0,
      c.is_eye-5.ensures,
      c.get-5.ensures.value,
    )
    (five-worth (eye_on a.player a.kind a.board.now a.d (line_no a.d a.code) a.j) a.j)
