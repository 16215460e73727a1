-- `sgf::token::is_token` meets its contract: the library's test says whether two slices are the same. Assumes nothing.
use mathlib.Core.Path.{ap, ◌∙◌}
use mathlib.Core.List.{List}
use Prim.Native.Nat.{ℕ}
use Rattle.rules.specs.Cases.{same}
use Rattle.sgf.proofs.Tokens.{same-pointwise}
use Rattle.sgf.proofs.token.is_token.Goals as goal

pub returns : goal.returns
returns c =
    c.eq.ensures ∙ same-pointwise c.first_token.result.now c.args.token.now
    ∙ ap (λ (l : List ℕ). same l c.args.token.now) c.first_token.ensures
