-- `lines::line_on` meets its contract: the line that the address names. Assumes nothing.
use borrow.Author.Rules.{rules}
use Rattle.rules.specs.Refusals.{first, direction_refusal}
use Rattle.rules.specs.Answers.{answer}
use Rattle.rules.proofs.Refusals.{unrefused}
use Rattle.board.specs.Boards.{refusal_at}
use Rattle.lines.specs.Copies.{line_through}
use Rattle.lines.proofs.Copied.{line_shown}
use Rattle.lines.proofs.line_on.Goals as goal

pub returns-in_err-direction_refusal : goal.returns-in_err-direction_refusal
unfolding line_through first answer
returns-in_err-direction_refusal c =
    let z = unrefused (refusal_at c.args.board c.args.code) c.refusal_at.ensures c.in_ok-refusal_at.was in
    rw z (search rules)

pub returns-then-a : goal.returns-then-a
unfolding line_through first answer
returns-then-a c =
    let a = c.args in
    let z = unrefused (refusal_at a.board a.code) c.refusal_at.ensures c.in_ok-refusal_at.was in
    let y = unrefused (direction_refusal a.d) c.direction_refusal.ensures c.in_ok-direction_refusal.was in
    rw (z, y, ← line_shown a.board a.d a.code c.address-a.result z y c.address-a.ensures, c.if-a.true, c.line_of.ensures)

pub returns : goal.returns
unfolding line_through first answer
returns c =
    let a = c.args in
    let z = unrefused (refusal_at a.board a.code) c.refusal_at.ensures c.in_ok-refusal_at.was in
    let y = unrefused (direction_refusal a.d) c.direction_refusal.ensures c.in_ok-direction_refusal.was in
    rw (z, y, ← line_shown a.board a.d a.code c.address-a.result z y c.address-a.ensures, c.if-a.false)
