-- Keys: the key of the line through a point, and the line of a key by its first point. Assumes nothing.
use mathlib.Core.Path.{◌≡◌, refl, ap, ap₂, ◌∙◌}
use mathlib.Core.Bool.{false, cond}
use mathlib.Core.List.{List}
use Prim.Native.Nat.{ℕ, zero, suc, ◌+◌, ◌-◌, ◌<◌}
use native.Mathlib.Omega.{arith}
use lib.Dec.{eqb, ltb, eqb→eq}
use Rattle.rules.specs.Tools.{all_below}
use Rattle.rules.specs.Point.{x_of, y_of, code_of, by_direction, line_no, point_at, key_of, key_dir, key_no, key_size, key_point}
use Rattle.rules.specs.Grid.{row_on, line_rows, key_rows}
use Rattle.rules.specs.declared.Player.{Player}
use Rattle.rules.specs.declared.RowKind.{RowKind}
use Rattle.rules.proofs.Logic.{all-elim}
use Rattle.rules.proofs.Address.{key_dir-lt, key_no-lt, key_size-ge, line-there}
use Rattle.second.specs.Lists.{rows_asked}

-- the key by the coordinates
pub key-is : (d p : ℕ)
    → by_direction d (x_of p) (15 + y_of p) (26 + (x_of p + 14 - y_of p)) (47 + (x_of p + y_of p)) ≡ key_of d (line_no d p)
unfolding key_of line_no
key-is zero p = refl
key-is (suc zero) p = refl
key-is (suc (suc zero)) p = refl
key-is (suc (suc (suc d))) p = refl

-- where the line of a key starts
abbrev pub start_of : ℕ → ℕ
start_of k =
    cond (ltb k 15) (code_of k 0)
    (cond (ltb k 30) (code_of 0 (k - 15))
    (cond (ltb k 41) (code_of 0 (40 - k)) (cond (ltb k 51) (code_of (k - 40) 0) (cond (ltb k 62) (code_of 0 (k - 47)) (code_of (k - 61) 14)))))

pub start_is : (k : ℕ) → k < 72 → start_of k ≡ key_point k 0
unfolding all_below key_point key_dir key_no point_at
start_is k h = eqb→eq (start_of k) (key_point k 0) (all-elim 72 (λ k. eqb (start_of k) (key_point k 0)) tt k h)

module _ (k : ℕ) (h : k < 72) where
  pub start-line : line_no (key_dir k) (key_point k 0) ≡ key_no k
  unfolding key_point key_size
  start-line = let s = key_size-ge k h in line-there (key_dir k) (key_no k) 0 (key_dir-lt k h) (key_no-lt k h) (omega arith)

  -- the rows of the line of a key
  pub start-rows : (r : Player) (kind : RowKind) (cells : List ℕ) (d p : ℕ) → d ≡ key_dir k → p ≡ key_point k 0
      → line_rows r kind cells d (line_no d p) (rows_asked r kind cells p d false) ≡ key_rows r kind cells k
  start-rows r kind cells d p ed ep =
      ap₂ (λ (x y : ℕ). line_rows r kind cells x (line_no x y) (row_on r kind cells x (line_no x y))) ed ep
      ∙ ap (λ (i : ℕ). line_rows r kind cells (key_dir k) i (row_on r kind cells (key_dir k) i)) start-line
