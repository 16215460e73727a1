-- `second::row::is_row` meets its contract: each arm is the kind's test. Assumes nothing.
use Rattle.rules.specs.Line.{row_at}
use Rattle.rules.specs.Grid.{row_on}
use Rattle.second.proofs.row.is_row.Goals as goal

pub returns-in-Two : goal.returns-in-Two
unfolding row_on row_at
returns-in-Two c = rw c.in-Two.is c.is_open.ensures

pub returns-in-Three : goal.returns-in-Three
unfolding row_on row_at
returns-in-Three c = rw c.in-Three.is c.is_open-in-Three.ensures

pub returns-in-Straight : goal.returns-in-Straight
unfolding row_on row_at
returns-in-Straight c = rw c.in-Straight.is c.is_open-in-Straight.ensures

pub returns-in-Sword : goal.returns-in-Sword
unfolding row_on row_at
returns-in-Sword c = rw c.in-Sword.is c.scores.ensures

pub returns-in-Four : goal.returns-in-Four
unfolding row_on row_at
returns-in-Four c = rw c.in-Four.is c.scores-in-Four.ensures

pub returns-in-Five : goal.returns-in-Five
unfolding row_on row_at
returns-in-Five c = rw c.in-Five.is c.scores-in-Five.ensures

pub returns-in-Overlining : goal.returns-in-Overlining
unfolding row_on row_at
returns-in-Overlining c = rw c.in-Overlining.is c.both_hold.ensures

pub returns-in-Overlined : goal.returns-in-Overlined
unfolding row_on row_at
returns-in-Overlined c = rw c.in-Overlined.is c.both_hold-in-Overlined.ensures
