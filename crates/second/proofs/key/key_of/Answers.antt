-- `second::key::key_of` meets its contract: it says the definition. Assumes nothing.
use Rattle.second.proofs.Keyed.{key-is}
use Rattle.second.proofs.key.key_of.Goals as goal

pub returns : goal.returns
returns c = simp (c.get-x.ensures.value, c.get-y.ensures.value, c.by_direction.ensures) (key-is c.args.d c.args.code)
