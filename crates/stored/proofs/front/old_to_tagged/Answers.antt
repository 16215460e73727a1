-- `stored::front::old_to_tagged` meets its contract: view 0 is not refused. Assumes nothing.
use Rattle.stored.proofs.Records.{tagged-old}
use Rattle.stored.proofs.front.old_to_tagged.Goals as goal

pub returns : goal.returns
returns c = rw (tagged-old c.args.moves.now) at c.to_tagged.ensures
