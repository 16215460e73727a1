-- `hint::attack::answer_at` meets its contract. Assumes nothing.
use mathlib.Core.Path.{sym, ◌∙◌}
use Rattle.grid.specs.Lines.{cells_of}
use Rattle.hint.proofs.Attacks.{answer-ends, answer-no, answer-forces}
use Rattle.rules.specs.declared.RowKind.TheVariants.{Sword}
use Rattle.hint.proofs.OnLines.{some-told}
use Rattle.hint.proofs.attack.answer_at.Goals as goal

pub returns-then-is_forbidden : goal.returns-then-is_forbidden
returns-then-is_forbidden c =
    answer-ends c.args.defender (cells_of c.args.lines.now) c.args.eye
    (sym c.is_forbidden.ensures ∙ c.if-is_forbidden.true)

pub returns-then-some_row : goal.returns-then-some_row
returns-then-some_row c =
    answer-no c.args.defender (cells_of c.args.lines.now) c.args.eye
    (sym c.is_forbidden.ensures ∙ c.if-is_forbidden.false)
    (sym (some-told c.args.defender Sword (cells_of c.args.lines.now) c.args.eye c.rows_for-rows.ensures.swords
    c.some_row.ensures) ∙ c.if-some_row.true)

pub returns : goal.returns
returns c =
    rw c.get.ensures.value
    (answer-forces c.args.defender (cells_of c.args.lines.now) c.args.eye
    (sym c.is_forbidden.ensures ∙ c.if-is_forbidden.false)
    (sym (some-told c.args.defender Sword (cells_of c.args.lines.now) c.args.eye c.rows_for-rows.ensures.swords
    c.some_row.ensures) ∙ c.if-some_row.false))
