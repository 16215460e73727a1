-- `sgf::token::value_length` meets its contract: a bracket is found before the end, or there is none. Assumes nothing.
use native.Mathlib.Omega.{arith}
use Rattle.text.proofs.Places.{has-yes, has_no}
use Rattle.sgf.specs.Tokens.{close_bracket, value_length}
use Rattle.sgf.proofs.token.value_length.Goals as goal

pub returns-then-end-s : goal.returns-then-end-s
unfolding value_length
returns-then-end-s c =
    let s = c.args.s.now in
    let e = c.find-end.ensures in
    rw (has-yes close_bracket s (omega arith)) (omega arith)

pub returns-else-end-s : goal.returns-else-end-s
unfolding value_length
returns-else-end-s c =
    let s = c.args.s.now in
    let e = c.find-end.ensures in
    rw (has_no close_bracket s (omega arith))
