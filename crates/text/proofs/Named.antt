-- Which texts name a point, said plainly: "exactly one letter and one or two digits after trimming: no plus sign and nothing behind"
-- (document 02). The definitions that the code is held to count a byte that is no digit as 16; here is what that comes to. Assumes nothing.
use mathlib.Core.Path.{◌≡◌, refl, ap₂, ◌∙◌}
use mathlib.Core.Bool.{Bool, true, false, ◌&&◌, ◌||◌, cond}
use mathlib.Core.List.{List, [], ◌∷◌}
use Prim.Native.Nat.{ℕ, ◌+◌, ◌*◌, ◌-◌, ◌<◌}
use native.Mathlib.Omega.{arith}
use lib.Dec.{eqb, leb, ltb}
use lib.ListN.{get_or, drop}
use borrow.Author.Tests.{leb-true, lt-ltb, le-leb, lt-leb}
use Rattle.rules.specs.Refusals.{no_column, no_row, unless, first}
use Rattle.rules.proofs.Logic.{and-flip}
use Rattle.text.specs.Bytes.{digit_zero, digit_nine, capital_a, capital_o, small_a, small_o, trim, text_refusal}
use Rattle.text.specs.Points.{column_of, digit_value, number_of, column_in, row_in, place_refusal, item_refusal, point_text_refusal}

-- ---- what is claimed

-- "a letter A to O or a to o"
abbrev pub is_letter : ℕ → Bool
is_letter b = (leb capital_a b && leb b capital_o) || (leb small_a b && leb b small_o)

abbrev pub is_digit : ℕ → Bool
is_digit b = leb digit_zero b && leb b digit_nine

-- "a number 1 to 15"
abbrev pub is_row : ℕ → Bool
is_row n = leb 1 n && leb n 15

-- a letter and one digit or two, whose number is a row's; any other bytes name no point
unfoldable pub names_point : List ℕ → Bool
names_point [] = false
names_point (a ∷ []) = false
names_point (a ∷ b ∷ []) = is_letter a && (is_digit b && is_row (b - digit_zero))
names_point (a ∷ b ∷ c ∷ []) = is_letter a && (is_digit b && (is_digit c && is_row (10 * (b - digit_zero) + (c - digit_zero))))
names_point (a ∷ b ∷ c ∷ d ∷ s) = false

-- ---- the letter and the number, each alone

letter : (b : ℕ) → ltb (column_of b) 15 ≡ is_letter b
unfolding column_of
letter b = go (leb capital_a b) (leb b capital_o) refl (leb small_a b) (leb b small_o) refl
  where
    small : (u v : Bool) → leb b small_o ≡ v → ltb (cond (u && v) (b - small_a) 15) 15 ≡ (u && v)
    small true true f = let h = leb-true b small_o f in lt-ltb (b - small_a) 15 (omega arith)
    small true false f = refl
    small false v f = refl

    go : (p q : Bool) → leb b capital_o ≡ q → (u v : Bool) → leb b small_o ≡ v
        → ltb (cond (p && q) (b - capital_a) (cond (u && v) (b - small_a) 15)) 15 ≡ ((p && q) || (u && v))
    go true true e u v f = let h = leb-true b capital_o e in lt-ltb (b - capital_a) 15 (omega arith)
    go true false e u v f = small u v f
    go false q e u v f = small u v f

no-row : (n : ℕ) → 15 < n → is_row n ≡ false
no-row n h = rw (le-leb 1 n (omega arith), lt-leb n 15 h)

one-digit : (b : ℕ) → is_row (digit_value b) ≡ (is_digit b && is_row (b - digit_zero))
unfolding digit_value
one-digit b = go (is_digit b)
  where
    go : (p : Bool) → is_row (cond p (b - digit_zero) 16) ≡ (p && is_row (b - digit_zero))
    go true = refl
    go false = refl

two_digits : (b c : ℕ)
    → is_row (10 * digit_value b + digit_value c) ≡ (is_digit b && (is_digit c && is_row (10 * (b - digit_zero) + (c - digit_zero))))
unfolding digit_value
two_digits b c = go (is_digit b) (is_digit c)
  where
    go : (p q : Bool) → is_row (10 * cond p (b - digit_zero) 16 + cond q (c - digit_zero) 16)
        ≡ (p && (q && is_row (10 * (b - digit_zero) + (c - digit_zero))))
    go true true = refl
    go true false = no-row (10 * (b - digit_zero) + 16) (omega arith)
    go false true = no-row (10 * 16 + (c - digit_zero)) (omega arith)
    go false false = refl

-- ---- a point's text

placed : (x n : ℕ) → eqb (place_refusal x n) 0 ≡ (ltb x 15 && is_row n)
unfolding place_refusal unless first
placed x n = go (ltb x 15) (is_row n)
  where
    go : (p q : Bool) → eqb (first (unless p no_column) (unless q no_row)) 0 ≡ (p && q)
    go true true = refl
    go true false = refl
    go false q = refl

shaped : (t : List ℕ) → (ltb (column_of (get_or t 0 0)) 15 && is_row (number_of (drop 1 t))) ≡ names_point t
unfolding column_of number_of names_point
shaped [] = refl
shaped (a ∷ []) = and-flip (ltb (column_of a) 15) false
shaped (a ∷ b ∷ []) = ap₂ ◌&&◌ (letter a) (one-digit b)
shaped (a ∷ b ∷ c ∷ []) = ap₂ ◌&&◌ (letter a) (two_digits b c)
shaped (a ∷ b ∷ c ∷ d ∷ s) = and-flip (ltb (column_of a) 15) false

-- A point's text is read exactly where, trimmed, it is a letter A to O or a to o and one or two digits that say 1 to 15, with nothing behind.
pub item-named : (s : List ℕ) → eqb (item_refusal s) 0 ≡ names_point (trim s)
unfolding item_refusal column_in row_in
item-named s = placed (column_in s) (row_in s) ∙ shaped (trim s)

-- .. and so is a text that is a point alone, if it has at most 4,096 bytes and none of 128 or more
pub point-named : (s : List ℕ) → eqb (point_text_refusal s) 0 ≡ (eqb (text_refusal s) 0 && names_point (trim s))
unfolding point_text_refusal first
point-named s = go (eqb (text_refusal s) 0) refl
  where
    go : (p : Bool) → eqb (text_refusal s) 0 ≡ p → eqb (cond p (item_refusal s) (text_refusal s)) 0 ≡ (p && names_point (trim s))
    go true e = item-named s
    go false e = e
