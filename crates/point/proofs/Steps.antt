-- Steps that may be negative: the index at the cell that they reach, by the two tests of the cell's number. Assumes nothing.
use mathlib.Core.Path.{◌≡◌, refl}
use mathlib.Core.Bool.{true, false}
use native.Mathlib.Omega.{arith}
use lib.IntN.{ℤ, pos, negsuc, nat_abs}
use lib.Signed.{le_z, lt_z}
use borrow.Author.Tests.{leb-false, clash}
use Rattle.std.specs.Prelude.{Some, None}
use Rattle.rules.specs.Point.{line_size}
use Rattle.point.specs.declared.index.Index.{Index}
use Rattle.point.specs.Answers.{cell_on}

pub past-start : (i : Index) (z : ℤ) → le_z (pos 0) z ≡ false → None ≡ cell_on i z
unfolding cell_on
past-start i (pos n) h = absurd (omega (arith, leb-false 0 n h))
past-start i (negsuc n) h = refl

pub step-cell : (i : Index) (z : ℤ) → le_z (pos 0) z ≡ true → lt_z z (pos (line_size i.d i.i)) ≡ true
    → Some (record { d = i.d; i = i.i; j = nat_abs z }) ≡ cell_on i z
unfolding cell_on
step-cell i (pos n) h k = rw k
step-cell i (negsuc n) h k = absurd (clash h)

pub past_end : (i : Index) (z : ℤ) → lt_z z (pos (line_size i.d i.i)) ≡ false → None ≡ cell_on i z
unfolding cell_on
past_end i (pos n) k = rw k
past_end i (negsuc n) k = refl
