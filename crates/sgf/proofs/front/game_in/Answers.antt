-- `sgf::front::game_in` meets its contract: refused as any text is, or its moves are found. Assumes nothing.
use mathlib.Core.Path.{◌≡◌, refl, ap, sym, ◌∙◌}
use mathlib.Core.Bool.{Bool, true, false}
use mathlib.Core.List.{List}
use Prim.Native.Nat.{ℕ}
use native.Mathlib.Omega.{arith}
use borrow.Author.Rules.{rules}
use lib.Dec.{leb}
use lib.ListN.{length}
use Rattle.rules.specs.declared.refusal.Refusal.TheVariants.{OutsideSubset, ManyMoves}
use Rattle.rules.proofs.Refusals.{unrefused}
use Rattle.text.specs.Bytes.{text_refusal}
use Rattle.text.proofs.Told.{told_ok, told_err, test_err, test_ok}
use Rattle.sgf.specs.Tokens.{behind_three, tokens_of}
use Rattle.sgf.specs.Games.{behind_moves, moves_from, end_refusal}
use Rattle.sgf.proofs.Tokens.{three-le}
use Rattle.sgf.proofs.Games.{moves-told, front-refused, moves-refused, many-refused, game-read}
use Rattle.sgf.proofs.front.game_in.Goals as goal

pub returns-in_err-unless : goal.returns-in_err-unless
returns-in_err-unless c =
    let s = c.args.text.now in
    let free = unrefused (text_refusal s) c.text_refusal.ensures.value c.in_ok-text_refusal.was in
    let f = test_err c.is_front.result OutsideSubset c.in_err-unless.field-0.0 (sym c.in_err-unless.was ∙ c.unless.ensures) in
    let told = front-refused s (behind_three (behind_three s)) refl free (sym c.is_front.ensures ∙ f.0) in
    rw (← told) (search rules)

pub moves_in-requires : goal.moves_in-requires
moves_in-requires c =
    let s = c.args.text.now in
    let e = ap length c.behind_front.ensures in
    omega (arith, three-le s, three-le (behind_three s), c.in_ok-text_refusal.ensures.short)

pub returns-in_err-moves : goal.returns-in_err-moves
returns-in_err-moves c =
    let s = c.args.text.now in
    let rest = c.behind_front.result.now in
    let free = unrefused (text_refusal s) c.text_refusal.ensures.value c.in_ok-text_refusal.was in
    let front = sym c.is_front.ensures ∙ test_ok c.is_front.result OutsideSubset (sym c.in_ok-unless.was ∙ c.unless.ensures) in
    let f = told_err (end_refusal (behind_moves 0 (tokens_of rest))) (moves_from 0 (tokens_of rest)) c.in_err-moves.field-0.0
    (sym c.in_err-moves.was ∙ c.moves_in.ensures) in
    let told = moves-refused s rest c.behind_front.ensures free front f.0 c.in_err-moves.field-0.0 f.1 in
    rw (← told) (search rules)

pub returns-in_err-unless-2 : goal.returns-in_err-unless-2
returns-in_err-unless-2 c =
    let s = c.args.text.now in
    let rest = c.behind_front.result.now in
    let free = unrefused (text_refusal s) c.text_refusal.ensures.value c.in_ok-text_refusal.was in
    let front = sym c.is_front.ensures ∙ test_ok c.is_front.result OutsideSubset (sym c.in_ok-unless.was ∙ c.unless.ensures) in
    let found = told_ok (end_refusal (behind_moves 0 (tokens_of rest))) (moves_from 0 (tokens_of rest)) c.in_ok-moves.moves
    (sym c.in_ok-moves.was ∙ c.moves_in.ensures) in
    let are = found.1 ∙ moves-told s rest c.behind_front.ensures in
    let f = test_err (leb c.len.result 225) ManyMoves c.in_err-unless-2.field-0.0 (sym c.in_err-unless-2.was ∙ c.unless-2.ensures) in
    let many = ap (λ (n : ℕ). leb n 225) (sym (c.len.ensures.value ∙ ap length are)) ∙ f.0 in
    let told = many-refused s rest c.behind_front.ensures free front found.0 many in
    rw (← told) (search rules)

pub returns : goal.returns
returns c =
    let s = c.args.text.now in
    let rest = c.behind_front.result.now in
    let free = unrefused (text_refusal s) c.text_refusal.ensures.value c.in_ok-text_refusal.was in
    let front = sym c.is_front.ensures ∙ test_ok c.is_front.result OutsideSubset (sym c.in_ok-unless.was ∙ c.unless.ensures) in
    let found = told_ok (end_refusal (behind_moves 0 (tokens_of rest))) (moves_from 0 (tokens_of rest)) c.in_ok-moves.moves
    (sym c.in_ok-moves.was ∙ c.moves_in.ensures) in
    let are = found.1 ∙ moves-told s rest c.behind_front.ensures in
    let f = test_ok (leb c.len.result 225) ManyMoves (sym c.in_ok-unless-2.was ∙ c.unless-2.ensures) in
    let few = ap (λ (n : ℕ). leb n 225) (sym (c.len.ensures.value ∙ ap length are)) ∙ f in
    rw are (game-read s rest c.behind_front.ensures free front found.0 few)
