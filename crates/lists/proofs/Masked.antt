-- The cells that a mask names on the line of a key. Assumes nothing.
use mathlib.Core.Path.{◌≡◌, subst}
use mathlib.Core.Bool.{Bool, true, not, ◌||◌}
use Prim.Native.Nat.{ℕ, ◌+◌, ◌<◌}
use native.Mathlib.Omega.{arith}
use lib.Dec.{T, ltb, ltb→lt}
use Rattle.rules.specs.Refusals.{unless, key_refusal}
use Rattle.rules.specs.Tools.{all_below}
use Rattle.rules.specs.Bit.{bit}
use Rattle.rules.specs.Point.{line_count, line_size, key_dir, key_no, key_size}
use Rattle.rules.proofs.Refusals.{first-none, passed}
use Rattle.rules.proofs.Address.{key_dir-lt, key_no-lt, key_size-le}
use Rattle.lists.specs.Lists.{mask_cell, mask_refusal}

-- a set bit names a cell of the line, which fits a byte
module _ (key j mask k : ℕ) (hk : key < 72) (on : bit mask k ≡ true) (t : T (mask_cell (key_size key) j mask k)) where
  pub mask-inside : j + k < key_size key
  mask-inside = ltb→lt (j + k) (key_size key) (subst (λ (b : Bool). T (not b || ltb (j + k) (key_size key))) on t)

  pub mask-small : j + k < 256
  mask-small = let a = mask-inside in let b = key_size-le key in omega arith

  pub mask-cell : (key_dir key < 4) × (key_no key < line_count (key_dir key)) × (j + k < line_size (key_dir key) (key_no key))
  unfolding key_size
  mask-cell = (key_dir-lt key hk, key_no-lt key hk, mask-inside)

-- what no refusal says
pub mask-open : (key j mask : ℕ) → mask_refusal key j mask ≡ 0 → (key < 72) × T (all_below 8 (mask_cell (key_size key) j mask))
unfolding mask_refusal key_refusal
mask-open key j mask e =
    let (s, t) = first-none (unless (ltb key 72) 10) (unless (all_below 8 (mask_cell (key_size key) j mask)) 10) e in
    (ltb→lt key 72 (passed (ltb key 72) 9 s), passed (all_below 8 (mask_cell (key_size key) j mask)) 9 t)
