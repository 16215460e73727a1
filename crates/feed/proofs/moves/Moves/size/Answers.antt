-- `feed::moves::Moves::size` meets its contract: the count, but no more than there are codes. Assumes nothing.
use mathlib.Core.Path.{◌≡◌}
use native.Mathlib.Omega.{arith}
use lib.ListN.{length}
use borrow.Author.Rules.{rules}
use Rattle.feed.proofs.Lists.{size-least}
use Rattle.feed.proofs.moves.Moves.size.Goals as goal

pub returns : goal.returns
returns c =
    let l = c.args.self in
    let e : length l.codes ≡ 225 = search rules in
    omega (arith, size-least l, c.min.ensures)
