-- `sgf::moves::move_at` meets its contract: token by token. Assumes nothing.
use mathlib.Core.Path.{ap, ap₂, sym, ◌∙◌}
use mathlib.Core.Bool.{Bool, ◌&&◌, cond}
use mathlib.Core.List.{List, [], ◌∷◌}
use Prim.Native.Nat.{ℕ}
use Rattle.std.specs.Prelude.{None}
use Rattle.rules.specs.Cases.{same}
use Rattle.sgf.specs.Tokens.{first_token}
use Rattle.sgf.specs.Games.{point_read}
use Rattle.sgf.proofs.Games.{move-told}
use Rattle.sgf.proofs.moves.move_at.Goals as goal

pub returns-then-is_token : goal.returns-then-is_token
returns-then-is_token c =
    let s = c.args.s.now in
    let name = c.behind_token-name.result.now in
    let value = c.behind_token-value.result.now in
    let told = move-told c.args.n s name value c.behind_token-name.ensures c.behind_token-value.ensures in
    let both = sym (ap₂ ◌&&◌ c.is_token.ensures (c.is_token-2.ensures ∙ ap (λ (b : ℕ). same (first_token name) (b ∷ [])) c.mover.ensures))
    ∙ c.if-is_token.true in
    rw (told, both) (c.point_of.ensures ∙ ap point_read c.first_token.ensures)

pub returns-else-is_token : goal.returns-else-is_token
returns-else-is_token c =
    let s = c.args.s.now in
    let name = c.behind_token-name.result.now in
    let value = c.behind_token-value.result.now in
    let told = move-told c.args.n s name value c.behind_token-name.ensures c.behind_token-value.ensures in
    let both = sym (ap₂ ◌&&◌ c.is_token.ensures (c.is_token-2.ensures ∙ ap (λ (b : ℕ). same (first_token name) (b ∷ [])) c.mover.ensures))
    ∙ c.if-is_token.false in
    rw (told, both)
