-- The laws of points, lines and keys, most of them tests that antt computes at every place. Assumes nothing.
use mathlib.Core.Path.{◌≡◌, refl}
use mathlib.Core.Bool.{Bool, true, false, beq, ◌&&◌, cond}
use Prim.Native.Nat.{ℕ, zero, suc, ◌+◌, ◌-◌, ◌*◌, ◌≤◌, ◌<◌}
use native.Mathlib.Omega.{arith}
use lib.Dec.{T, eqb, ltb, leb, eqb→eq, ltb→lt, leb→le, lt→ltb}
use borrow.Author.Tests.{ltb-true, ltb-false}
use Rattle.rules.specs.Tools.{all_below}
use Rattle.rules.specs.Point.{x_of, y_of, code_of, line_no, cell_no, line_count, line_size, point_at, step_of}
use Rattle.rules.specs.Point.{stored, key_of, key_dir, key_no, key_size}
use Rattle.rules.proofs.Logic.{all-elim, all2, all3, implies, implied}
use Rattle.rules.proofs.Tables.{beq-eq}

-- ---- codes

-- "A1 is 0, H8 is 112, O15 is 224."
pub named : T (eqb (code_of 0 0) 0 && eqb (code_of 7 7) 112 && eqb (code_of 14 14) 224)
named = tt

pub code_lt : (x y : ℕ) → x < 15 → y < 15 → code_of x y < 225
code_lt x y hx hy = omega arith

pub x-of-code : (x y : ℕ) → y < 15 → x_of (code_of x y) ≡ x
x-of-code x y hy = omega arith

pub y-of-code : (x y : ℕ) → y < 15 → y_of (code_of x y) ≡ y
y-of-code x y hy = omega arith

pub code-of-xy : (p : ℕ) → code_of (x_of p) (y_of p) ≡ p
code-of-xy p = omega arith

-- ---- a point is at its address, and the address exists

pub point-here : (d p : ℕ) → d < 4 → p < 225 → point_at d (line_no d p) (cell_no d p) ≡ p
unfolding all_below point_at line_no cell_no
point-here d p hd hp =
    eqb→eq (point_at d (line_no d p) (cell_no d p)) p (all2 4 225 (λ d p. eqb (point_at d (line_no d p) (cell_no d p)) p) tt d p hd hp)

pub line-here : (d p : ℕ) → d < 4 → p < 225 → line_no d p < line_count d
unfolding all_below line_no line_count
line-here d p hd hp = ltb→lt (line_no d p) (line_count d) (all2 4 225 (λ d p. ltb (line_no d p) (line_count d)) tt d p hd hp)

pub cell-here : (d p : ℕ) → d < 4 → p < 225 → cell_no d p < line_size d (line_no d p)
unfolding all_below line_no cell_no line_size
cell-here d p hd hp =
    ltb→lt (cell_no d p) (line_size d (line_no d p)) (all2 4 225 (λ d p. ltb (cell_no d p) (line_size d (line_no d p))) tt d p hd hp)

-- no line is longer than 15 cells
diagonal-le : (i : ℕ) → cond (ltb i 14) (i + 1) (29 - i) ≤ 15
diagonal-le i = go (ltb i 14) refl
  where
    go : (b : Bool) → ltb i 14 ≡ b → cond b (i + 1) (29 - i) ≤ 15
    go true e = omega (arith, ltb-true i 14 e)
    go false e = omega (arith, ltb-false i 14 e)

pub size-le : (d i : ℕ) → line_size d i ≤ 15
unfolding line_size
size-le zero i = omega arith
size-le (suc zero) i = omega arith
size-le (suc (suc zero)) i = diagonal-le i
size-le (suc (suc (suc d))) i = diagonal-le i

pub key_size-le : (k : ℕ) → key_size k ≤ 15
unfolding key_size
key_size-le k = size-le (key_dir k) (key_no k)

-- ---- an address names a point, whose address it is

-- a test at each cell of each line
abbrev on_cells : (ℕ → ℕ → ℕ → Bool) → Bool
on_cells f = all_below 4 (λ d. all_below (line_count d) (λ i. all_below (line_size d i) (f d i)))

at-cell : (f : ℕ → ℕ → ℕ → Bool) → T (on_cells f) → (d i j : ℕ) → d < 4 → i < line_count d → j < line_size d i → T (f d i j)
at-cell f t d i j hd hi hj =
    all-elim (line_size d i) (f d i)
    (all-elim (line_count d) (λ i. all_below (line_size d i) (f d i))
    (all-elim 4 (λ d. all_below (line_count d) (λ i. all_below (line_size d i) (f d i))) t d hd) i hi) j hj

pub point-lt : (d i j : ℕ) → d < 4 → i < line_count d → j < line_size d i → point_at d i j < 225
unfolding all_below point_at line_count line_size
point-lt d i j hd hi hj = ltb→lt (point_at d i j) 225 (at-cell (λ d i j. ltb (point_at d i j) 225) tt d i j hd hi hj)

pub line-there : (d i j : ℕ) → d < 4 → i < line_count d → j < line_size d i → line_no d (point_at d i j) ≡ i
unfolding all_below point_at line_no line_count line_size
line-there d i j hd hi hj = eqb→eq (line_no d (point_at d i j)) i (at-cell (λ d i j. eqb (line_no d (point_at d i j)) i) tt d i j hd hi hj)

pub cell-there : (d i j : ℕ) → d < 4 → i < line_count d → j < line_size d i → cell_no d (point_at d i j) ≡ j
unfolding all_below point_at cell_no line_count line_size
cell-there d i j hd hi hj = eqb→eq (cell_no d (point_at d i j)) j (at-cell (λ d i j. eqb (cell_no d (point_at d i j)) j) tt d i j hd hi hj)

-- ---- steps: from p back to the line's first cell, and on

pub step-le : (d : ℕ) → step_of d ≤ 16
step-le zero = omega arith
step-le (suc zero) = omega arith
step-le (suc (suc zero)) = omega arith
step-le (suc (suc (suc d))) = omega arith

abbrev pub walk_to : ℕ → ℕ → ℕ → ℕ
walk_to d p j = p - cell_no d p * step_of d + step_of d * j

module _ (d p : ℕ) (hd : d < 4) (hp : p < 225) where
  pub step_back : cell_no d p * step_of d ≤ p
  unfolding all_below cell_no
  step_back = leb→le (cell_no d p * step_of d) p (all2 4 225 (λ d p. leb (cell_no d p * step_of d) p) tt d p hd hp)

  pub step-at : (j : ℕ) → j < line_size d (line_no d p) → walk_to d p j ≡ point_at d (line_no d p) j
  unfolding all_below line_no cell_no line_size point_at
  step-at j hj =
      eqb→eq (walk_to d p j) (point_at d (line_no d p) j)
      (implied (ltb j (line_size d (line_no d p))) (eqb (walk_to d p j) (point_at d (line_no d p) j))
      (all3 4 225 15 (λ d p j. implies (ltb j (line_size d (line_no d p))) (eqb (walk_to d p j) (point_at d (line_no d p) j))) tt d p j
      hd hp (omega (arith, size-le d (line_no d p))))
      (lt→ltb j (line_size d (line_no d p)) hj))

-- ---- keys

-- a stored line has a key, and the key names it
on_stored : (ℕ → ℕ → Bool) → Bool
on_stored f = all_below 4 (λ d. all_below (line_count d) (λ i. implies (stored d i) (f d i)))

at_stored : (f : ℕ → ℕ → Bool) → T (on_stored f) → (d i : ℕ) → d < 4 → i < line_count d → T (stored d i) → T (f d i)
unfolding on_stored
at_stored f t d i hd hi s =
    implied (stored d i) (f d i)
    (all-elim (line_count d) (λ i. implies (stored d i) (f d i))
    (all-elim 4 (λ d. all_below (line_count d) (λ i. implies (stored d i) (f d i))) t d hd) i hi) s

pub key-lt : (d i : ℕ) → d < 4 → i < line_count d → T (stored d i) → key_of d i < 72
unfolding all_below on_stored line_count stored key_of
key-lt d i hd hi s = ltb→lt (key_of d i) 72 (at_stored (λ d i. ltb (key_of d i) 72) tt d i hd hi s)

pub key-dir : (d i : ℕ) → d < 4 → i < line_count d → T (stored d i) → key_dir (key_of d i) ≡ d
unfolding all_below on_stored line_count stored key_of key_dir
key-dir d i hd hi s = eqb→eq (key_dir (key_of d i)) d (at_stored (λ d i. eqb (key_dir (key_of d i)) d) tt d i hd hi s)

pub key-no : (d i : ℕ) → d < 4 → i < line_count d → T (stored d i) → key_no (key_of d i) ≡ i
unfolding all_below on_stored line_count stored key_of key_no
key-no d i hd hi s = eqb→eq (key_no (key_of d i)) i (at_stored (λ d i. eqb (key_no (key_of d i)) i) tt d i hd hi s)

-- a line is stored where it has five cells or more
pub stored-long : (d i : ℕ) → d < 4 → i < line_count d → stored d i ≡ leb 5 (line_size d i)
unfolding all_below line_count stored line_size
stored-long zero i hd hi = refl
stored-long (suc zero) i hd hi = refl
stored-long (suc (suc zero)) i hd hi =
    beq-eq (stored 2 i) (leb 5 (line_size 2 i)) (all-elim 29 (λ i. beq (stored 2 i) (leb 5 (line_size 2 i))) tt i hi)
stored-long (suc (suc (suc zero))) i hd hi =
    beq-eq (stored 3 i) (leb 5 (line_size 3 i)) (all-elim 29 (λ i. beq (stored 3 i) (leb 5 (line_size 3 i))) tt i hi)
stored-long (suc (suc (suc (suc d)))) i hd hi = absurd (omega arith)

-- a key below 72 names a stored line, whose key it is
module _ (k : ℕ) (hk : k < 72) where
  pub key_dir-lt : key_dir k < 4
  unfolding all_below key_dir
  key_dir-lt = ltb→lt (key_dir k) 4 (all-elim 72 (λ k. ltb (key_dir k) 4) tt k hk)

  pub key_no-lt : key_no k < line_count (key_dir k)
  unfolding all_below key_dir key_no line_count
  key_no-lt = ltb→lt (key_no k) (line_count (key_dir k)) (all-elim 72 (λ k. ltb (key_no k) (line_count (key_dir k))) tt k hk)

  pub key-stored : T (stored (key_dir k) (key_no k))
  unfolding all_below key_dir key_no stored
  key-stored = all-elim 72 (λ k. stored (key_dir k) (key_no k)) tt k hk

  pub key_back : key_of (key_dir k) (key_no k) ≡ k
  unfolding all_below key_dir key_no key_of
  key_back = eqb→eq (key_of (key_dir k) (key_no k)) k (all-elim 72 (λ k. eqb (key_of (key_dir k) (key_no k)) k) tt k hk)

  pub key_size-ge : 5 ≤ key_size k
  unfolding all_below key_dir key_no key_size line_size
  key_size-ge = leb→le 5 (key_size k) (all-elim 72 (λ k. leb 5 (key_size k)) tt k hk)
