-- `referee::thin::is_double_three_in` meets its contract: where a stone may be tried the trial answers, else the refusal or no. Assumes
-- nothing.
use Rattle.referee.proofs.Trial.{may-be-tried, tried-there, not-tried}
use Rattle.referee.proofs.thin.is_double_three_in.Goals as goal

pub trial_in-requires : goal.trial_in-requires
trial_in-requires c =
    may-be-tried c.args.b.now _ c.args.code c.may_try_in.ensures c.in_ok-may_try_in.was c.if-branch.true

pub returns-then-branch : goal.returns-then-branch
returns-then-branch c =
    tried-there c.args.b.now _ c.args.code c.may_try_in.ensures c.in_ok-may_try_in.was c.if-branch.true c.trial_in.ensures

pub returns : goal.returns
returns c =
    not-tried c.args.b.now _ c.args.code c.may_try_in.ensures c.in_ok-may_try_in.was c.if-branch.false
