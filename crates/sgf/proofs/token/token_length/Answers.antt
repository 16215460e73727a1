-- `sgf::token::token_length` meets its contract: a text without a byte has a token of one all the same. Assumes nothing.
use mathlib.Core.Path.{◌≡◌, refl}
use mathlib.Core.List.{List, [], ◌∷◌}
use Prim.Native.Nat.{ℕ, ◌<◌}
use native.Mathlib.Omega.{arith}
use lib.ListN.{length}
use Rattle.sgf.specs.Tokens.{capital, token_length}
use Rattle.sgf.proofs.token.token_length.Goals as goal

none : (s : List ℕ) → length s < 1 → 1 ≡ token_length s
unfolding token_length capital
none [] h = refl
none (b ∷ s) h = omega arith

pub returns-in_default : goal.returns-in_default
returns-in_default c = none c.args.s.now (omega arith)
