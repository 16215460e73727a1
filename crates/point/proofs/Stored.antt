-- The laws of places: where a point's line is stored, its key, and the point's cell on it. Assumes nothing.
use mathlib.Core.Path.{◌≡◌, refl, sym, ap, ap₂, ◌∙◌}
use mathlib.Core.Logic.{inl, inr}
use mathlib.Core.Bool.{Bool, true, false, cond}
use mathlib.Core.List.{List}
use Prim.Native.Nat.{ℕ, zero, suc, ◌+◌, ◌*◌, ◌/◌, ◌%◌, ◌<◌}
use native.Mathlib.Omega.{arith}
use lib.Dec.{T, ltb, ltb→lt}
use lib.ListN.{get_or}
use borrow.Author.Tests.{lt-ltb, le-ltb}
use Rattle.rules.specs.Point.{by_direction, line_no, cell_no, stored, stored_at, key_of, key_at, key_dir, key_no}
use Rattle.rules.proofs.Logic.{true-T, T_true, and_left, and_right, decide}
use Rattle.rules.proofs.Lists.{get_d-tab}
use Rattle.rules.proofs.Address.{line-here, cell-here, size-le, key-lt, key-dir, key-no}
use Rattle.point.specs.declared.place.Place.{Place}
use Rattle.point.specs.Places.{has_place, place_of, packed, addresses, unpacked, place_by}

abbrev either : Bool → Place → Place → Place
either b x y = cond b x y

-- ---- a place by the table

-- the table has four directions; one over 3 is taken for Descending
abbrev way : ℕ → ℕ
way d = by_direction d 0 1 2 3

pub way-lt : (d : ℕ) → way d < 4
way-lt zero = omega arith
way-lt (suc zero) = omega arith
way-lt (suc (suc zero)) = omega arith
way-lt (suc (suc (suc d))) = omega arith

way-place : (d p : ℕ) → place_of (way d) p ≡ place_of d p
unfolding place_of has_place stored_at key_at cell_no stored key_of line_no
way-place zero p = refl
way-place (suc zero) p = refl
way-place (suc (suc zero)) p = refl
way-place (suc (suc (suc d))) p = simp (le-ltb (suc (suc (suc d))) 2 (omega arith))

-- the entry of a point in a direction
entry : (d p : ℕ) → d < 4 → p < 225 → get_or addresses (4 * p + d) 0 ≡ packed d p
unfolding addresses
entry d p hd hp =
    let m : (4 * p + d) % 4 ≡ d = omega arith in
    let q : (4 * p + d) / 4 ≡ p = omega arith in
    get_d-tab 900 (λ n. packed (n % 4) (n / 4)) (4 * p + d) (omega arith) ∙ ap₂ packed m q

stored-key-lt : (d p : ℕ) → d < 4 → p < 225 → stored_at d p ≡ true → key_at d p < 72
unfolding key_at stored_at
stored-key-lt d p hd hp s = key-lt d (line_no d p) hd (line-here d p hd hp) (true-T s)

no_place : (d p : ℕ) → ltb p 225 ≡ false → record { stored = false; key = 0; cell = 0 } ≡ place_of d p
unfolding place_of has_place
no_place d p e = simp e

-- what it says is the place
module _ (d p : ℕ) (hd : d < 4) (hp : p < 225) where
  stored-says : stored_at d p ≡ true → unpacked (packed d p) ≡ place_of d p
  unfolding unpacked packed place_of has_place
  stored-says s =
      let c : cell_no d p < 16 = omega (arith, cell-here d p hd hp, size-le d (line_no d p)) in
      let k : key_at d p < 72 = stored-key-lt d p hd hp s in
      let small : 16 * key_at d p + cell_no d p < 1152 = omega (arith, c, k) in
      let key : (16 * key_at d p + cell_no d p) / 16 ≡ key_at d p = omega (arith, c) in
      let cell : (16 * key_at d p + cell_no d p) % 16 ≡ cell_no d p = omega (arith, c) in
      simp (s, lt-ltb p 225 hp, lt-ltb (16 * key_at d p + cell_no d p) 1152 small, key, cell)

  unstored-says : stored_at d p ≡ false → unpacked (packed d p) ≡ place_of d p
  unfolding unpacked packed place_of has_place
  unstored-says s = simp (s, lt-ltb p 225 hp)

  entry-says : unpacked (packed d p) ≡ place_of d p
  entry-says =
      elim (decide (stored_at d p)) [
        | inl s ↦ stored-says s
        | inr s ↦ unstored-says s
      ]

-- "No answer of any entry changes": the table gives every point its place, in every direction
pub place-by : (d p : ℕ) → place_by addresses d p ≡ place_of d p
unfolding place_by
place-by d p =
    elim (decide (ltb p 225)) [
      | inl s ↦
          let hp : p < 225 = ltb→lt p 225 (true-T s) in
          rw s (ap unpacked (entry (way d) p (way-lt d) hp) ∙ entry-says (way d) p (way-lt d) hp ∙ way-place d p)
      | inr s ↦ rw s (no_place d p s)
    ]

-- of any table: a place is on one of the 72 lines
key-of-either : (b : Bool) (x y : Place) → (b ≡ true → x.key < 72) → y.key < 72 → (either b x y).key < 72
key-of-either true x y hx hy = hx refl
key-of-either false x y hx hy = hy

pub by-key-lt : {r : Place} (table : List ℕ) (d p : ℕ) → r ≡ place_by table d p → r.key < 72
unfolding place_by unpacked
by-key-lt table d p e =
    let n = get_or table (4 * p + way d) 0 in
    let none : Place = record { stored = false; key = 0; cell = 0 } in
    rw e
    (key-of-either (ltb p 225) (either (ltb n 1152) (record { stored = true; key = n / 16; cell = n % 16 }) none) none
    (λ _. key-of-either (ltb n 1152) (record { stored = true; key = n / 16; cell = n % 16 }) none
    (λ t. omega (arith, ltb→lt n 1152 (true-T t))) (omega arith))
    (omega arith))

-- ---- what a place says

stored_is : (b : Bool) (k j : ℕ)
    → (either b (record { stored = true; key = k; cell = j }) (record { stored = false; key = 0; cell = 0 })).stored ≡ b
stored_is true k j = refl
stored_is false k j = refl

-- it is stored where the point has a place
pub place-stored : {r : Place} (d p : ℕ) → r ≡ place_of d p → r.stored ≡ has_place d p
unfolding place_of
place-stored d p e = ap (λ (r : Place). r.stored) e ∙ stored_is (has_place d p) (key_at d p) (cell_no d p)

module _ {r : Place} (d p : ℕ) (e : r ≡ place_of d p) (s : r.stored ≡ true) where
  pub place-has : has_place d p ≡ true
  place-has = sym (place-stored d p e) ∙ s

  place_is : r ≡ record { stored = true; key = key_at d p; cell = cell_no d p }
  unfolding place_of
  place_is = e ∙ simp place-has

  pub place-key : r.key ≡ key_at d p
  place-key = ap (λ (r : Place). r.key) place_is

  pub place-cell : r.cell ≡ cell_no d p
  place-cell = ap (λ (r : Place). r.cell) place_is

module _ (d p : ℕ) (h : has_place d p ≡ true) where
  pub has-point : p < 225
  unfolding has_place
  has-point = ltb→lt p 225 (and_left (ltb p 225) (stored_at d p) (true-T h))

  pub has-line : stored_at d p ≡ true
  unfolding has_place
  has-line = T_true (and_right (ltb p 225) (stored_at d p) (true-T h))

-- ---- a place's key names its line, and the cell is on it

module _ (d p : ℕ) (hd : d < 4) (h : has_place d p ≡ true) where
  on_line : T (stored d (line_no d p))
  unfolding stored_at
  on_line = true-T (has-line d p h)

  pub place-key-lt : key_at d p < 72
  unfolding key_at
  place-key-lt = key-lt d (line_no d p) hd (line-here d p hd (has-point d p h)) on_line

  pub place-key-dir : key_dir (key_at d p) ≡ d
  unfolding key_at
  place-key-dir = key-dir d (line_no d p) hd (line-here d p hd (has-point d p h)) on_line

  pub place-key-no : key_no (key_at d p) ≡ line_no d p
  unfolding key_at
  place-key-no = key-no d (line_no d p) hd (line-here d p hd (has-point d p h)) on_line
