-- `point::index::Index::cell_on` meets its contract: its arms are the two tests. Assumes nothing.
use mathlib.Core.Path.{◌≡◌, ap, ◌∙◌}
use Prim.Native.Nat.{ℕ}
use native.Mathlib.Omega.{arith}
use lib.IntN.{pos}
use mir.Facts.{to_z-of_z, to_z_pos}
use mir.Syntax.{w16}
use mir.Val.{to_z}
use Rattle.rules.specs.Point.{line_size}
use Rattle.rules.proofs.Address.{size-le}
use Rattle.point.proofs.Steps.{past-start, step-cell, past_end}
use Rattle.point.proofs.index.Index.cell_on.Goals as goal
use Rattle.point.proofs.index.Index.cell_on.Goals.{else-j-ge0-via-then-j-ge0+else-j-line_size, else-j-ge0-via-else-j-ge0}

-- the line's size, compared as a number of sixteen bits
size-is : (d i n : ℕ) → n ≡ line_size d i → to_z w16 n ≡ pos (line_size d i)
size-is d i n e = to_z_pos w16 (omega (arith, size-le d i)) ∙ ap pos e

pub returns-then-j-line_size : goal.returns-then-j-line_size
returns-then-j-line_size c =
    let a = c.args in
    let e = to_z-of_z c.ranges.j in
    let s = size-is a.self.d a.self.i c.line_size.result c.line_size.ensures in
    simp e (step-cell a.self a.j (simp e at c.if-j-ge0.true) (simp (e, s) at c.if-j-line_size.true))

pub returns : goal.returns
returns c =
    let a = c.args in
    let e = to_z-of_z c.ranges.j in
    elim c.else-j-ge0.branch [
      | else-j-ge0-via-then-j-ge0+else-j-line_size w ↦
          let s = size-is a.self.d a.self.i w.line_size.result w.line_size.ensures in
          past_end a.self a.j (simp (e, s) at w.if-j-line_size.false)
      | else-j-ge0-via-else-j-ge0 w ↦ past-start a.self a.j (simp e at w.if-j-ge0.false)
    ]
