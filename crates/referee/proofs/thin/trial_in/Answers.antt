-- `referee::thin::trial_in` meets its contract: the stone is put, the question asked and the stone taken off, and the board is as it was.
-- Assumes nothing.
use Rattle.referee.proofs.Trial.{may-ask, may-remove, tried}
use Rattle.referee.proofs.thin.trial_in.Goals as goal

pub ask_in-real-requires : goal.ask_in-real-requires
ask_in-real-requires c = may-ask c.args.b.now c.args.code c.requires _ c.put_in.ensures

pub remove_in-requires : goal.remove_in-requires
remove_in-requires c = may-remove c.args.b.now c.args.code c.requires _ _ c.put_in.ensures c.ask_in-real.ensures.1

pub returns : goal.returns
returns c = tried c.args.b.now c.args.code c.requires _ _ _ _ c.put_in.ensures c.ask_in-real.ensures c.remove_in.ensures
