-- `rules::larger` meets its contract. Assumes nothing.
use borrow.Author.Tests.{le-leb, lt-leb}
use Rattle.rules.specs.Depth.{larger}
use Rattle.rules.proofs.larger.Goals as goal

pub returns-then-a-b : goal.returns-then-a-b
unfolding larger
returns-then-a-b c = rw (le-leb c.args.a c.args.b c.if-a-b.true)

pub returns-else-a-b : goal.returns-else-a-b
unfolding larger
returns-else-a-b c = rw (lt-leb c.args.a c.args.b c.if-a-b.false)
