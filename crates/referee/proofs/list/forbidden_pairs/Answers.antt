-- `referee::list::forbidden_pairs` meets its contract. Assumes nothing.
use mathlib.Core.Path.{◌∙◌}
use Rattle.referee.specs.Referee.{columns_of}
use Rattle.referee.proofs.Asked.{lines-wanted}
use Rattle.referee.proofs.Swept.{columns-none}
use Rattle.referee.proofs.list.forbidden_pairs.Goals as goal

pub returns-then-columns-eq0 : goal.returns-then-columns-eq0
unfolding columns_of
returns-then-columns-eq0 c =
    c.new.ensures
    ∙ columns-none c.args.cells.now c.requires.long c.sweep_points-asked.ensures c.marked_columns-columns.ensures c.if-columns-eq0.true

pub asked_pairs-requires : goal.asked_pairs-requires
unfolding columns_of
asked_pairs-requires c = (
  c.requires,
  (λ h. lines-wanted c.are_many-built.result c.args.cells.now c.lines_if-lines.ensures h),
  c.sweep_points-asked.ensures,
  c.marked_columns-columns.ensures,
)
