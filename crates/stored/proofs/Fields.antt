-- Fields: one that is written is read back, whatever stands behind it; bytes with a field in front are that field and what is behind it.
-- Assumes nothing.
use mathlib.Core.Path.{◌≡◌, refl, ap, ◌∙◌}
use mathlib.Core.List.{List, [], ◌∷◌, ◌++◌, append_assoc}
use Prim.Native.Nat.{ℕ, ◌+◌, ◌*◌, ◌/◌, ◌%◌, ◌≤◌, ◌<◌}
use native.Mathlib.Omega.{arith}
use lib.Dec.{T, eqb, leb, eqb→eq, leb→le, le→leb}
use lib.ListN.{length, get_or, take, drop, length-append, length-drop, take-append-drop}
use lib.Seq.{take_at, drop_at, length-take-le}
use borrow.Author.Tests.{eq-eqb}
use Rattle.rules.proofs.Logic.{true-T, and_left, and_right, and_intro}
use Rattle.lent.specs.Lists.{kept}
use Rattle.lent.proofs.Laws.{kept_lem}
use Rattle.stored.specs.Fields.{field, field_length, field_value, behind_field, has_field}

-- ---- a field that is written, and what stands behind it

module _ (tag : ℕ) (value rest : List ℕ) where
  pub length_back : field_length (field tag value ++ rest) ≡ length value
  unfolding field_length field
  length_back = omega arith

  pub value-back : field_value (field tag value ++ rest) ≡ value
  unfolding field_value field
  value-back = ap (λ (n : ℕ). take n (value ++ rest)) length_back ∙ take_at value rest (length value) refl

  pub rest_back : behind_field (field tag value ++ rest) ≡ rest
  unfolding behind_field field
  rest_back = ap (λ (n : ℕ). drop n (value ++ rest)) length_back ∙ drop_at value rest (length value) refl

  tag_back : T (eqb (get_or (field tag value ++ rest) 0 0) tag)
  unfolding field
  tag_back = true-T (eq-eqb tag tag refl)

  all_there : 3 + field_length (field tag value ++ rest) ≤ length (field tag value ++ rest)
  unfolding field
  all_there = let n = length_back in let l = length-append value rest in omega arith

  pub field-there : T (has_field tag (field tag value ++ rest))
  unfolding has_field
  field-there =
      let s : List ℕ = field tag value ++ rest in
      and_intro (eqb (get_or s 0 0) tag) (leb (3 + field_length s) (length s)) tag_back (le→leb (3 + field_length s) (length s) all_there)

-- ---- bytes with a field in front

module _ (tag : ℕ) (s : List ℕ) (t : T (has_field tag s)) where
  has-tag : get_or s 0 0 ≡ tag
  unfolding has_field
  has-tag = eqb→eq (get_or s 0 0) tag (and_left (eqb (get_or s 0 0) tag) (leb (3 + field_length s) (length s)) t)

  has_room : 3 + field_length s ≤ length s
  unfolding has_field
  has_room = leb→le (3 + field_length s) (length s) (and_right (eqb (get_or s 0 0) tag) (leb (3 + field_length s) (length s)) t)

-- the value has the length that is said
pub value-length : (tag : ℕ) (s : List ℕ) → T (has_field tag s) → length (field_value s) ≡ field_length s
unfolding field_value
value-length tag s t =
    let room = has_room tag s t in
    let l = length-drop 3 s in
    length-take-le (field_length s) (drop 3 s) (omega arith)

-- the field and what is behind it are all of the bytes, where the low half of the length is a byte
whole : (tag : ℕ) (s : List ℕ) → get_or s 2 0 < 256 → get_or s 0 0 ≡ tag → 3 + field_length s ≤ length s
    → field tag (field_value s) ++ behind_field s ≡ s
unfolding field_length field_value behind_field field
whole tag [] low e room = absurd (omega arith)
whole tag (a ∷ []) low e room = absurd (omega arith)
whole tag (a ∷ b ∷ []) low e room = absurd (omega arith)
whole tag (a ∷ b ∷ c ∷ s) low e room =
    let n : ℕ = 256 * b + c in
    let long : length (take n s) ≡ n = length-take-le n s (omega arith) in
    let high : length (take n s) / 256 ≡ b = omega arith in
    let less : length (take n s) % 256 ≡ c = omega arith in
    cc (take-append-drop n s)

pub field-whole : (tag : ℕ) (s : List ℕ) → get_or s 2 0 < 256 → T (has_field tag s) → field tag (field_value s) ++ behind_field s ≡ s
field-whole tag s low t = whole tag s low (has-tag tag s t) (has_room tag s t)

-- ---- a field that is put at the end of a list, its front first

pub field_kept : (tag : ℕ) (value : List ℕ) (n : ℕ) (l : List ℕ) {mid new : List ℕ} → length l + (3 + length value) ≤ n
    → mid ≡ kept n l (tag ∷ (length value / 256) ∷ (length value % 256) ∷ []) → new ≡ kept n mid value → new ≡ l ++ field tag value
unfolding field
field_kept tag value n l {mid} {new} room first-kept then-kept =
    let front : List ℕ = tag ∷ (length value / 256) ∷ (length value % 256) ∷ [] in
    let e : mid ≡ l ++ front = first-kept ∙ kept_lem n l front (omega arith) in
    let long : length mid ≡ length l + 3 = ap length e ∙ length-append l front in
    then-kept ∙ kept_lem n mid value (omega (arith, long)) ∙ ap (λ (x : List ℕ). x ++ value) e ∙ append_assoc l front value
