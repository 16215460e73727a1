-- `renju::texts::cells_out` meets its contract. Assumes nothing.
use mathlib.Core.Path.{sym, ◌∙◌}
use borrow.Author.Rules.{rules}
use Rattle.rules.proofs.Refusals.{answered}
use Rattle.renju.proofs.Handed.{refused-out}
use Rattle.renju.proofs.texts.cells_out.Goals as goal

pub returns-in_err-read : goal.returns-in_err-read
returns-in_err-read c = λ told cells e. refused-out told c.args.out.now cells 225 cells (sym e ∙ c.in_err-read.was) (search rules)

pub returns : goal.returns
returns c = λ told cells e.
    let (none, same) = answered told cells e c.in_ok-read.was in
    rw (none, sym same) c.hand_out.ensures
