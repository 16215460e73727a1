-- `masks::row_starts` meets its contract: its arms are the kinds of the definition. Assumes nothing.
use Rattle.rules.specs.Line.{row_at}
use Rattle.masks.proofs.row_starts.Goals as goal

pub returns-in-Two : goal.returns-in-Two
unfolding row_at
returns-in-Two c = rw c.in-Two.is c.open_starts.ensures

pub returns-in-Three : goal.returns-in-Three
unfolding row_at
returns-in-Three c = rw c.in-Three.is c.open_starts-in-Three.ensures

pub returns-in-Straight : goal.returns-in-Straight
unfolding row_at
returns-in-Straight c = rw c.in-Straight.is c.open_starts-in-Straight.ensures

pub returns-in-Sword : goal.returns-in-Sword
unfolding row_at
returns-in-Sword c = rw c.in-Sword.is c.score_mask.ensures

pub returns-in-Four : goal.returns-in-Four
unfolding row_at
returns-in-Four c = rw c.in-Four.is c.score_mask-in-Four.ensures

pub returns-in-Five : goal.returns-in-Five
unfolding row_at
returns-in-Five c = rw c.in-Five.is c.score_mask-in-Five.ensures

pub returns-in-Overlining : goal.returns-in-Overlining
unfolding row_at
returns-in-Overlining c = rw c.in-Overlining.is c.over_starts.ensures

pub returns-in-Overlined : goal.returns-in-Overlined
unfolding row_at
returns-in-Overlined c = rw c.in-Overlined.is c.over_starts-in-Overlined.ensures
