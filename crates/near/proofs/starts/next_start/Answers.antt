-- `near::starts::next_start` meets its contract. Assumes nothing.
use borrow.Author.Rules.{rules}
use mathlib.Core.Path.{◌∙◌, sym}
use Rattle.near.proofs.Next.{next-zero, next_low, next-mask}
use Rattle.rules.proofs.Numbered.{next_past}
use Rattle.near.proofs.starts.next_start.Goals as goal

pub returns-then-from-ge64 : goal.returns-then-from-ge64
returns-then-from-ge64 c = sym (next_past _ _ c.if-from-ge64.true)

pub returns-then-rest-eq0 : goal.returns-then-rest-eq0
returns-then-rest-eq0 c =
    next-zero c.word_of.result _ (search rules) ∙ next-mask _ _ c.word_of.ensures

pub returns : goal.returns
returns c = next_low _ _ (search rules) (search rules) ∙ next-mask _ _ c.word_of.ensures
