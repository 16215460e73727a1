-- `renju::texts::of_length` meets its contract. Assumes nothing.
use borrow.Author.Rules.{rules}
use Rattle.renju.proofs.Words.{told_err, told_ok}
use Rattle.renju.proofs.texts.of_length.Goals as goal

pub returns-in_err-written : goal.returns-in_err-written
returns-in_err-written c = λ told n e. told_err told n c.args.length e c.in_err-written.was (search rules)

pub returns : goal.returns
returns c = λ told n e. told_ok told n c.args.length e c.in_ok-written.was
