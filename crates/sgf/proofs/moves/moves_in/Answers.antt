-- `sgf::moves::moves_in` meets its contract: the codes are kept, and the rest has the other moves. Assumes nothing.
use mathlib.Core.Path.{◌≡◌, ap, sym, ◌∙◌}
use mathlib.Core.Bool.{true, false}
use Prim.Native.Nat.{ℕ}
use native.Mathlib.Omega.{arith}
use borrow.Author.Rules.{rules}
use lib.ListN.{length}
use Rattle.rules.specs.declared.refusal.Refusal.TheVariants.{OutsideSubset}
use Rattle.sgf.specs.Tokens.{tokens_of}
use Rattle.sgf.specs.Games.{move_read, moves_from, behind_moves, is_end}
use Rattle.sgf.proofs.Games.{reading-none, reading-more, shorter, all-kept, left_behind, read-some, read-none, end-refused, end-there}
use Rattle.text.proofs.Told.{test_err, test_ok}
use Rattle.sgf.proofs.moves.moves_in.Goals as goal

pub moves-init : goal.moves-init
moves-init c = rw c.new-codes.ensures (reading-none c.args.s.now c.requires)

pub moves-smaller : goal.moves-smaller
moves-smaller c =
    let ts = tokens_of c.moves.rest.now in
    let told = read-some (length c.moves.codes) ts c.in-Some.code
    (ap (λ (n : ℕ). move_read n ts) (sym c.len.ensures.value) ∙ sym c.move_at.ensures ∙ c.in-Some.is) in
    let less = shorter c.args.s.now c.moves.codes c.moves.rest.now c.moves.invariant told.0 c.behind_three-rest.result.now c.behind_three-rest.ensures in
    omega arith

pub moves-preserved : goal.moves-preserved
moves-preserved c =
    let ts = tokens_of c.moves.rest.now in
    let told = read-some (length c.moves.codes) ts c.in-Some.code
    (ap (λ (n : ℕ). move_read n ts) (sym c.len.ensures.value) ∙ sym c.move_at.ensures ∙ c.in-Some.is) in
    reading-more c.args.s.now c.moves.codes c.moves.rest.now c.moves.invariant told.0 c.behind_three-rest.result.now
    c.behind_three-rest.ensures c.in-Some.code told.1 c.keep.new.self c.keep.ensures

pub returns-in_err-unless : goal.returns-in_err-unless
returns-in_err-unless c =
    let s = c.args.s.now in
    let ts = tokens_of c.moves.rest.now in
    let off = read-none (length c.moves.codes) ts
    (ap (λ (n : ℕ). move_read n ts) (sym c.len.ensures.value) ∙ sym c.move_at.ensures ∙ c.in_default.is) in
    let f = test_err c.is_end.result OutsideSubset c.in_err-unless.field-0.0 (sym c.in_err-unless.was ∙ c.unless.ensures) in
    let left = left_behind s c.moves.codes c.moves.rest.now c.moves.invariant off in
    let told = end-refused (behind_moves 0 (tokens_of s)) (moves_from 0 (tokens_of s)) (ap is_end left ∙ sym c.is_end.ensures ∙ f.0) in
    rw (← told) (search rules)

pub returns : goal.returns
returns c =
    let s = c.args.s.now in
    let ts = tokens_of c.moves.rest.now in
    let off = read-none (length c.moves.codes) ts
    (ap (λ (n : ℕ). move_read n ts) (sym c.len.ensures.value) ∙ sym c.move_at.ensures ∙ c.in_default.is) in
    let f = test_ok c.is_end.result OutsideSubset (sym c.in_ok-unless.was ∙ c.unless.ensures) in
    let left = left_behind s c.moves.codes c.moves.rest.now c.moves.invariant off in
    let there = end-there (behind_moves 0 (tokens_of s)) (moves_from 0 (tokens_of s)) (ap is_end left ∙ sym c.is_end.ensures ∙ f) in
    rw (all-kept s c.moves.codes c.moves.rest.now c.moves.invariant off) there
