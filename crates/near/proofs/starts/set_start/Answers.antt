-- `near::starts::set_start` meets its contract. Assumes nothing.
use borrow.Author.Rules.{rules}
use Rattle.near.proofs.Chosen.{put_in, taken_out, no_start}
use Rattle.near.proofs.starts.set_start.Goals as goal

pub returns-then-number-ge64 : goal.returns-then-number-ge64
returns-then-number-ge64 c = no_start _ c.word_of-word.ensures _ _ c.if-number-ge64.true c.parted.ensures

pub returns-then-on : goal.returns-then-on
returns-then-on c = put_in _ c.word_of-word.ensures _ _ c.if-on.true (search rules) c.parted-then-on.ensures

pub returns : goal.returns
returns c = taken_out _ c.word_of-word.ensures _ _ c.if-on.false (search rules) c.parted-2.ensures
