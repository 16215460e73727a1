-- `sgf::token::first_token` meets its contract: the white space in front is passed, then the token. Assumes nothing.
use mathlib.Core.Path.{◌≡◌, ap, sym, ◌∙◌}
use mathlib.Core.List.{List}
use Prim.Native.Nat.{ℕ}
use lib.ListN.{take, drop}
use Rattle.text.specs.Bytes.{trim_start}
use Rattle.text.proofs.Places.{trim_start_lem}
use Rattle.sgf.specs.Tokens.{token_length, first_token}
use Rattle.sgf.proofs.token.first_token.Goals as goal

pub returns : goal.returns
unfolding first_token
returns c =
    let s = c.args.s.now in
    let t = c.tail-t.result.now in
    let start : t ≡ trim_start s =
    c.tail-t.ensures ∙ ap (λ (k : ℕ). drop k s) c.leading_space.ensures ∙ sym (trim_start_lem s) in
    c.head.ensures ∙ ap (λ (k : ℕ). take k t) c.token_length.ensures ∙ ap (λ (l : List ℕ). take (token_length l) l) start
