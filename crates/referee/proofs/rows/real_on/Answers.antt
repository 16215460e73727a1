-- `referee::rows::real_on` meets its contract. Assumes nothing.
use mathlib.Core.Path.{◌∙◌}
use Prim.Native.Nat.{◌<◌}
use native.Mathlib.Omega.{arith}
use Rattle.rules.specs.declared.Player.TheVariants.{Black}
use Rattle.rules.specs.declared.RowKind.TheVariants.{Three}
use Rattle.grid.proofs.Placed.{starts_by_lem}
use Rattle.grid.proofs.RowStarts.{starts-masks}
use Rattle.referee.proofs.rows.real_on.Goals as goal

pub two_real-requires : goal.two_real-requires
two_real-requires c =
    let a = c.args in
    let hp : a.code < 225 = omega arith in (
      c.requires,
      (rw c.get.ensures.value at c.row_starts_by-threes.ensures) ∙ starts_by_lem a.lines.now _ a.code Black Three c.numbers.ensures
          ∙ starts-masks Black Three a.lines.now a.code c.requires hp,
    )
