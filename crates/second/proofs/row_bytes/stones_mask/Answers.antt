-- `second::row_bytes::stones_mask` meets its contract: five cells as a mask. Assumes nothing.
use Rattle.rules.specs.Line.{stones_mask}
use Rattle.rules.specs.Point.{line_no}
use Rattle.rules.specs.Grid.{stone_at}
use Rattle.second.proofs.Gathered.{five-worth}
use Rattle.second.proofs.row_bytes.stones_mask.Goals as goal

pub returns : goal.returns
unfolding stones_mask
returns c =
    let a = c.args in
    rw (
      c.worth.ensures.0,
      c.has_stone.ensures,
      c.get.ensures.value,
      c.worth-2.ensures.0,
      c.has_stone-2.ensures,
      c.get-2.ensures.value,
      c.worth-3.ensures.0,
      c.has_stone-3.ensures,
      c.get-3.ensures.value,
      c.worth-4.ensures.0,
      c.has_stone-4.ensures,
      c.get-4.ensures.value,
      c.worth-5.ensures.0,
      c.has_stone-5.ensures,
      c.get-5.ensures.value,
    )
    (five-worth (stone_at a.player a.board.now a.d (line_no a.d a.code)) a.j)
