-- `near::words::joined` meets its contract. Assumes nothing.
use Rattle.near.proofs.Places.{join-places, four-places}
use borrow.Author.Rules.{rules}
use Rattle.near.proofs.words.joined.Goals as goal

pub returns : goal.returns
returns c = four-places c.args.masks (join-places _ _ _ _ (search rules) (search rules) (search rules) (search rules))
