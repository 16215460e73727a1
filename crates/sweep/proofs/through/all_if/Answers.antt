-- `sweep::through::all_if` meets its contract, bit by bit. Assumes nothing.
use mathlib.Core.Path.{sym, ◌∙◌}
use lib.Dec.{lit<}
use borrow.Author.Tests.{lt-ltb}
use Rattle.rules.proofs.Bits.{mask-ext, bit-ones, bit-none}
use Rattle.sweep.proofs.through.all_if.Goals as goal

pub returns-then-on : goal.returns-then-on
returns-then-on c = mask-ext 16 _ _ (lit< tt) (λ x k. bit-ones 16 x ∙ lt-ltb x 16 k ∙ sym c.if-on.true)

pub returns-else-on : goal.returns-else-on
returns-else-on c = mask-ext 16 _ _ (lit< tt) (λ x k. bit-none x ∙ sym c.if-on.false)
