-- `segment::row::is_open` meets its contract: a window that scores has its last cell empty where its mask of stones is below 16. Assumes
-- nothing.
use mathlib.Core.Path.{◌≡◌, sym, ◌∙◌}
use mathlib.Core.Bool.{true}
use Rattle.segment.specs.Rows.{open_of, segment_scores}
use Rattle.segment.proofs.Segments.{segment-open}
use Rattle.segment.proofs.row.is_open.Goals as goal
use Rattle.segment.proofs.row.is_open.Goals.{then-scores_before, else-scores_before}

pub returns-then-scores : goal.returns-then-scores
unfolding open_of
returns-then-scores c =
    let a = c.args in
    elim c.if-scores_before.branch [
      | then-scores_before w ↦
          let before = sym c.scores_before.ensures ∙ w.if-scores_before.true in
          let now : segment_scores a.colour a.n a.cur ≡ true = sym w.scores.ensures ∙ sym w.value-is ∙ c.if-scores.true in
          simp (c.stones_of.ensures, c.my.ensures) (rw (before, now) (segment-open a.colour a.n a.cur now))
      | else-scores_before w ↦ cc
    ]
