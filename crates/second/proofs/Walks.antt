-- Walks by coordinates reach the cells of the line, and stay on the board. Assumes nothing.
use mathlib.Core.Path.{◌≡◌, refl, sym, subst}
use mathlib.Core.Bool.{not, ◌||◌}
use Prim.Native.Nat.{ℕ, zero, suc, ◌+◌, ◌-◌, ◌≤◌, ◌<◌, min}
use native.Mathlib.Omega.{arith}
use lib.Dec.{eqb, leb, ltb, eqb→eq, leb→le, lt→ltb}
use borrow.Author.Tests.{eq-eqb, ne_eqb}
use Rattle.rules.specs.Tools.{all_below}
use Rattle.rules.specs.Point.{x_of, y_of, code_of, by_direction, line_no, cell_no, line_size, point_at}
use Rattle.rules.proofs.Logic.{all2, all3, implies, implied}
use Rattle.rules.proofs.Address.{size-le, line-here, point-lt}
use Rattle.second.specs.Walk.{steps_on, x_at, y_at}

-- the steps back from p that stay on the board
abbrev pub steps_back : ℕ → ℕ → ℕ
steps_back d p = by_direction d (y_of p) (x_of p) (min (x_of p) (y_of p)) (min (x_of p) (14 - y_of p))

module _ (d p : ℕ) (hd : d < 4) (hp : p < 225) where
  -- they are the cells before p
  pub back-cells : steps_back d p ≡ cell_no d p
  unfolding all_below cell_no
  back-cells = eqb→eq (steps_back d p) (cell_no d p) (all2 4 225 (λ d p. eqb (steps_back d p) (cell_no d p)) tt d p hd hp)

  -- with p and the cells after it they are the line
  pub whole-line : cell_no d p + 1 + steps_on d p ≡ line_size d (line_no d p)
  unfolding all_below cell_no steps_on line_size line_no
  whole-line =
      eqb→eq (cell_no d p + 1 + steps_on d p) (line_size d (line_no d p))
      (all2 4 225 (λ d p. eqb (cell_no d p + 1 + steps_on d p) (line_size d (line_no d p))) tt d p hd hp)

  -- back it goes left no further than the first column, but along a vertical line
  pub back-left : (d ≡ 0 → ⊥) → cell_no d p ≤ x_of p
  unfolding all_below cell_no
  back-left n =
      leb→le (cell_no d p) (x_of p)
      (rw (ne_eqb d 0 n) at (all2 4 225 (λ d p. eqb d 0 || leb (cell_no d p) (x_of p)) tt d p hd hp))

  -- .. and down no further than the first row, but along a horizontal line and a descending one
  pub back-down : (d ≡ 1 → ⊥) → (d ≡ 3 → ⊥) → cell_no d p ≤ y_of p
  unfolding all_below cell_no
  back-down n m =
      leb→le (cell_no d p) (y_of p)
      (rw (ne_eqb d 1 n, ne_eqb d 3 m) at (all2 4 225 (λ d p. eqb d 1 || eqb d 3 || leb (cell_no d p) (y_of p)) tt d p hd hp))

  module _ (i : ℕ) (hi : i < line_size d (line_no d p)) where
    -- the point that the walk reaches
    pub walked : code_of (x_at d p i) (y_at d p i) ≡ point_at d (line_no d p) i
    unfolding all_below line_no cell_no line_size point_at x_at y_at
    walked =
        eqb→eq (code_of (x_at d p i) (y_at d p i)) (point_at d (line_no d p) i)
        (implied (ltb i (line_size d (line_no d p))) (eqb (code_of (x_at d p i) (y_at d p i)) (point_at d (line_no d p) i))
        (all3 4 225 15 (λ d p i. implies (ltb i (line_size d (line_no d p)))
        (eqb (code_of (x_at d p i) (y_at d p i)) (point_at d (line_no d p) i))) tt d p i hd hp (omega (arith, size-le d (line_no d p))))
        (lt→ltb i (line_size d (line_no d p)) hi))

    pub on-board : code_of (x_at d p i) (y_at d p i) < 225
    on-board = subst (λ (q : ℕ). q < 225) (sym walked) (point-lt d (line_no d p) i hd (line-here d p hd hp) hi)

    -- along a descending line it goes down no further than the first row
    pub on-down : d ≡ 3 → i ≤ y_of p + cell_no d p
    unfolding all_below cell_no line_no line_size
    on-down e =
        leb→le i (y_of p + cell_no d p)
        (implied (ltb i (line_size d (line_no d p))) (leb i (y_of p + cell_no d p))
        (rw (eq-eqb d 3 e) at (all3 4 225 15 (λ d p i. not (eqb d 3) || implies (ltb i (line_size d (line_no d p)))
        (leb i (y_of p + cell_no d p))) tt d p i hd hp (omega (arith, size-le d (line_no d p)))))
        (lt→ltb i (line_size d (line_no d p)) hi))

-- x and y of a cell, where a step on makes them more
pub x-more : (d p i : ℕ) → (d ≡ 0 → ⊥) → x_of p - cell_no d p + i ≡ x_at d p i
unfolding x_at
x-more zero p i n = absurd (n refl)
x-more (suc zero) p i n = refl
x-more (suc (suc zero)) p i n = refl
x-more (suc (suc (suc d))) p i n = refl

pub y-more : (d p i : ℕ) → d < 4 → (d ≡ 1 → ⊥) → (d ≡ 3 → ⊥) → y_of p - cell_no d p + i ≡ y_at d p i
unfolding y_at
y-more zero p i h n m = refl
y-more (suc zero) p i h n m = absurd (n refl)
y-more (suc (suc zero)) p i h n m = refl
y-more (suc (suc (suc zero))) p i h n m = absurd (m refl)
y-more (suc (suc (suc (suc d)))) p i h n m = absurd (omega arith)

-- the fourth direction is what is left
pub by_last : (d v h a s : ℕ) → (d ≡ 0 → ⊥) → (d ≡ 1 → ⊥) → (d ≡ 2 → ⊥) → s ≡ by_direction d v h a s
by_last zero v h a s n m l = absurd (n refl)
by_last (suc zero) v h a s n m l = absurd (m refl)
by_last (suc (suc zero)) v h a s n m l = absurd (l refl)
by_last (suc (suc (suc d))) v h a s n m l = refl
