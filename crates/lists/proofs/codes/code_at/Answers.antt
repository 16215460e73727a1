-- `lists::codes::code_at` meets its contract: a cell on its line is a point of the board. Assumes nothing.
use Prim.Native.Nat.{◌<◌}
use native.Mathlib.Omega.{arith}
use Rattle.rules.proofs.Address.{point-lt}
use Rattle.lists.proofs.codes.code_at.Goals as goal

pub overflow_cast-result : goal.overflow_cast-result
overflow_cast-result c =
    let a = c.args in
    let hd : a.d < 4 = omega (arith, c.get.ensures.value, c.get.ensures.below) in
    let at = rw c.get.ensures.value at c.point_at.ensures in
    record { fits = omega (arith, at, point-lt a.d a.i a.j hd c.requires.0 c.requires.1) }

pub returns : goal.returns
returns c =
    let a = c.args in
    let hd : a.d < 4 = omega (arith, c.get.ensures.value, c.get.ensures.below) in
    let at = rw c.get.ensures.value at c.point_at.ensures in
    (at, rw at (point-lt a.d a.i a.j hd c.requires.0 c.requires.1))
