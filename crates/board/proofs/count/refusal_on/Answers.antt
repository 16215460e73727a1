-- `board::count::refusal_on` meets its contract: on sound lines the stones shown are those of the points. Assumes nothing.
use mathlib.Core.Path.{sym}
use borrow.Author.Rules.{rules}
use Rattle.rules.specs.Refusals.{first, unless}
use Rattle.rules.specs.Answers.{answer}
use Rattle.board.proofs.Given.{refusal-shown}
use Rattle.board.proofs.count.refusal_on.Goals as goal

pub returns-in_err-lines_refusal : goal.returns-in_err-lines_refusal
unfolding answer first unless
returns-in_err-lines_refusal c =
    let a = c.args in
    rw (sym (refusal-shown a.lines.now a.blacks a.whites)) (search rules)

pub returns : goal.returns
unfolding answer first unless
returns c =
    let a = c.args in
    rw (sym (refusal-shown a.lines.now a.blacks a.whites)) (search rules)
