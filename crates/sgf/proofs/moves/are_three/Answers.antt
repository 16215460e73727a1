-- `sgf::moves::are_three` meets its contract: token by token. Assumes nothing.
use mathlib.Core.Path.{ap, sym, ◌∙◌}
use mathlib.Core.List.{List}
use Prim.Native.Nat.{ℕ}
use Rattle.rules.specs.Cases.{same}
use Rattle.sgf.specs.Games.{are_three}
use Rattle.sgf.proofs.Tokens.{first_of, second_at, third_at}
use Rattle.sgf.proofs.moves.are_three.Goals as goal

pub returns : goal.returns
unfolding are_three
returns c =
    let a = c.args in
    let s = a.s.now in
    let t = c.behind_token-second.result.now in
    let u = c.behind_token-third.result.now in
    rw (
      c.is_token.ensures ∙ ap (λ (l : List ℕ). same l a.a.now) (sym (first_of s)),
      c.is_token-2.ensures ∙ ap (λ (l : List ℕ). same l a.b.now) (second_at s t c.behind_token-second.ensures),
      c.is_token-3.ensures
          ∙ ap (λ (l : List ℕ). same l a.c.now) (third_at s t u c.behind_token-second.ensures c.behind_token-third.ensures),
    )
