-- `sgf::moves::is_end` meets its contract: the first token, and none behind it. Assumes nothing.
use mathlib.Core.Path.{ap, ap₂, ◌∙◌}
use mathlib.Core.Bool.{Bool, ◌&&◌}
use mathlib.Core.List.{List}
use Prim.Native.Nat.{ℕ}
use lib.Dec.{eqb}
use lib.ListN.{length}
use Rattle.sgf.specs.Tokens.{first_token}
use Rattle.sgf.proofs.Games.{end-told}
use Rattle.sgf.proofs.moves.is_end.Goals as goal

pub returns : goal.returns
returns c =
    let s = c.args.s.now in
    ap₂ (λ (x : Bool) (l : List ℕ). x && eqb (length l) 0) c.is_token.ensures
    (c.first_token.ensures ∙ ap first_token c.behind_token.ensures)
    ∙ end-told s
