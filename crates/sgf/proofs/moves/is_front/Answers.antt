-- `sgf::moves::is_front` meets its contract: three tokens, and three behind them. Assumes nothing.
use mathlib.Core.Path.{ap, ap₂, sym, ◌∙◌}
use mathlib.Core.Bool.{Bool, ◌&&◌}
use Rattle.sgf.specs.Tokens.{tokens_of}
use Rattle.sgf.specs.Games.{game_value, size_name, size_value, are_three, is_front}
use Rattle.sgf.proofs.Tokens.{behind-three-of}
use Rattle.sgf.proofs.moves.is_front.Goals as goal

pub returns : goal.returns
unfolding is_front
returns c =
    let s = c.args.s.now in
    ap₂ (λ (x y : Bool). x && y) c.are_three.ensures
    (c.are_three-2.ensures ∙ ap (are_three game_value size_name size_value) (ap tokens_of c.behind_three.ensures ∙ sym (behind-three-of s)))
