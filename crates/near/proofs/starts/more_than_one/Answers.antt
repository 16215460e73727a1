-- `near::starts::more_than_one` meets its contract. Assumes nothing.
use borrow.Author.Rules.{rules}
use mathlib.Core.Path.{◌∙◌, ap}
use Prim.Native.Nat.{ℕ}
use Rattle.rules.specs.Bit.{bit}
use Rattle.rules.specs.Grid.{starts_of, numbered}
use Rattle.rules.specs.Forbidden.{apart}
use Rattle.near.proofs.More.{first-lt, past_first, apart-mask}
use Rattle.near.proofs.Places.{named-low}
use Rattle.rules.proofs.Numbered.{more-numbered}
use Rattle.near.proofs.starts.more_than_one.Goals as goal

pub overflow_shl-result-2 : goal.overflow_shl-result-2
overflow_shl-result-2 c = first-lt c.word_of-word.result (search rules)

pub returns : goal.returns
returns c =
    let s = starts_of c.args.starts in
    past_first _ (search rules) ∙ ap (λ (m : ℕ). apart 64 (bit m)) c.word_of-word.ensures ∙ apart-mask (numbered s)
    ∙ more-numbered s (named-low _)
