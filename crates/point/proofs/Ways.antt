-- Directions as numbers and as the cases of `Direction`: the same choice of four. Assumes nothing.
use mathlib.Core.Path.{◌≡◌, refl}
use Prim.Native.Nat.{ℕ, zero, suc}
use native.Mathlib.Omega.{arith}
use borrow.Author.Tests.{ne_eqb}
use Rattle.rules.specs.Numbers.{direction_of}
use Rattle.rules.specs.Point.{by_direction}
use Rattle.rules.specs.declared.Direction.{Direction}
use Rattle.rules.specs.declared.Direction.TheVariants.{Vertical, Horizontal, Ascending, Descending}

-- one of four, by the case
abbrev pub by_way : Direction → ℕ → ℕ → ℕ → ℕ → ℕ
by_way Vertical v h a s = v
by_way Horizontal v h a s = h
by_way Ascending v h a s = a
by_way Descending v h a s = s

pub by-own : (d v h a s : ℕ) → by_direction d v h a s ≡ by_way (direction_of d) v h a s
by-own zero v h a s = refl
by-own (suc zero) v h a s = refl
by-own (suc (suc zero)) v h a s = refl
by-own (suc (suc (suc d))) v h a s =
    let n = suc (suc (suc d)) in
    simp (ne_eqb n 0 (λ e. omega arith), ne_eqb n 1 (λ e. omega arith), ne_eqb n 2 (λ e. omega arith))
