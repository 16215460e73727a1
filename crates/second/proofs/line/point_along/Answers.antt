-- `second::line::point_along` meets its contract: the walk reaches the cell. Assumes nothing.
use mathlib.Core.Path.{◌∙◌}
use native.Mathlib.Omega.{arith}
use Rattle.second.proofs.Bounded.{made, made-is}
use Rattle.second.proofs.Walks.{walked, on-board}
use Rattle.second.proofs.line.point_along.Goals as goal

pub overflow_mul-x_at : goal.overflow_mul-x_at
overflow_mul-x_at c =
    let a = c.args in
    let h = on-board a.d a.code (omega arith) (omega arith) a.i c.requires in
    record { fits = omega (arith, c.x_at.ensures) }

pub overflow_add-x_at : goal.overflow_add-x_at
overflow_add-x_at c =
    let a = c.args in
    let h = on-board a.d a.code (omega arith) (omega arith) a.i c.requires in
    record { fits = omega (arith, c.x_at.ensures, c.y_at.ensures) }

pub unwrap-requires : goal.unwrap-requires
unwrap-requires c =
    let a = c.args in
    let h = on-board a.d a.code (omega arith) (omega arith) a.i c.requires in
    made 225 _ c.new.ensures (omega (arith, c.x_at.ensures, c.y_at.ensures))

pub returns : goal.returns
returns c =
    let a = c.args in
    made-is 225 _ c.new.ensures c.unwrap.ensures
    ∙ rw (c.x_at.ensures, c.y_at.ensures) (walked a.d a.code (omega arith) (omega arith) a.i c.requires)
