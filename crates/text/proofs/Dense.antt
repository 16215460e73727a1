-- Laws of the cells of a line, as the code reads it: one byte a turn. Assumes nothing.
use mathlib.Core.Path.{◌≡◌, ap, sym, ◌∙◌}
use mathlib.Core.Bool.{true, false}
use mathlib.Core.List.{List, [], ◌∷◌}
use Prim.Native.Nat.{ℕ, ◌+◌, ◌≤◌, ◌<◌}
use native.Mathlib.Numerals.{add-one}
use native.Mathlib.Omega.{arith}
use lib.ListN.{length, get_or, drop, drop_of_length-le, length-drop}
use lib.Seq.{drop-cons, drop-drop, get_or-drop}
use Rattle.text.specs.Bytes.{space, dense}

-- ---- a list without its first x items: the next item, and that there is none
module _ {A : Type 0} (none : A) (l : List A) (x : ℕ) where
  pub next-in : (a : A) (rest : List A) → drop x l ≡ a ∷ rest → x < length l
  next-in a rest e = let n = ap length e in omega (arith, length-drop x l)

  pub next-is : (a : A) (rest : List A) → drop x l ≡ a ∷ rest → get_or l x none ≡ a
  next-is a rest e =
      let z : x + 0 ≡ x = omega arith in
      ap (λ (k : ℕ). get_or l k none) (sym z) ∙ sym (get_or-drop x l 0 none) ∙ ap (λ (m : List A). get_or m 0 none) e

  pub next-rest : (a : A) (rest : List A) → drop x l ≡ a ∷ rest → drop (x + 1) l ≡ rest
  next-rest a rest e = sym (drop-drop 1 x l) ∙ ap (drop 1) e

  pub next-none : drop x l ≡ [] → length l ≤ x
  next-none e = let n = ap length e in omega (arith, length-drop x l)

-- ---- the cells of a line
pub dense-space : (s : List ℕ) (i : ℕ) → i < length s → space (get_or s i 0) ≡ true → dense (drop i s) ≡ dense (drop (i + 1) s)
unfolding dense
dense-space s i h e = rw (add-one, drop-cons s i 0 h, e)

pub dense-cell : (s : List ℕ) (i : ℕ) → i < length s → space (get_or s i 0) ≡ false → dense (drop i s) ≡ get_or s i 0 ∷ dense (drop (i + 1) s)
unfolding dense
dense-cell s i h e = rw (add-one, drop-cons s i 0 h, e)

pub dense-end : (s : List ℕ) (i : ℕ) → length s ≤ i → dense (drop i s) ≡ []
unfolding dense
dense-end s i h = rw (drop_of_length-le s h)
