-- `text::points::codes_in` meets its contract: all codes, where no item slips. Assumes nothing.
use Rattle.text.proofs.Items.{all-kept, all-read, all-good, one_refused}
use Rattle.text.proofs.points.codes_in.Goals as goal

pub returns-in-None-clause-value : goal.returns-in-None-clause-value
returns-in-None-clause-value c = all-read c.args.s.now c.leading_into.new.codes c.leading_into.result c.leading_into.ensures c.in-None.is

pub returns-in-None-clause-all : goal.returns-in-None-clause-all
returns-in-None-clause-all c = (all-kept c.args.s.now c.leading_into.new.codes c.leading_into.result c.leading_into.ensures c.in-None.is).1

pub returns-in-None-clause-good : goal.returns-in-None-clause-good
returns-in-None-clause-good c = all-good c.args.s.now c.leading_into.new.codes c.leading_into.result c.leading_into.ensures c.in-None.is

pub returns-in-Some-clause-value : goal.returns-in-Some-clause-value
returns-in-Some-clause-value c =
    one_refused c.args.s.now c.leading_into.new.codes c.leading_into.result c.leading_into.ensures c.in-Some.slip c.in-Some.is
