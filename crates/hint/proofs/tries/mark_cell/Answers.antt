-- `hint::tries::mark_cell` meets its contract. Assumes nothing.
use mathlib.Core.Path.{◌∙◌}
use Prim.Native.Nat.{ℕ}
use Rattle.rules.specs.Point.{point_at, key_point}
use mathlib.Core.Path.{ap₂}
use Rattle.hint.proofs.Marks.{marked-as}
use Rattle.hint.proofs.tries.mark_cell.Goals as goal

pub returns-then-on : goal.returns-then-on
unfolding key_point
returns-then-on c = (
  c.mark_point.ensures.0,
  marked-as _ c.args.on (c.point_at.ensures
      ∙ ap₂ (λ (d i : ℕ). point_at d i c.args.j) c.key_direction.ensures c.key_no.ensures)
      c.mark_point.ensures.1,
)
