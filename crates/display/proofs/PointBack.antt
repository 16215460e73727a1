-- Points that are written read back: a point by one computed test of all 225, and a list of them. Assumes nothing.
use mathlib.Core.Path.{◌≡◌, refl, ap, ap₂, ◌∙◌}
use mathlib.Core.Bool.{Bool, false, not, ◌&&◌}
use mathlib.Core.List.{List, [], ◌∷◌, ◌++◌, append-nil, append_assoc}
use Prim.Native.Nat.{ℕ, zero, suc, ◌+◌, ◌/◌, ◌%◌, ◌<◌, ◌≤◌}
use native.Mathlib.Nat.{le_of_suc-le-suc, not-suc-le-zero}
use native.Mathlib.Omega.{arith}
use lib.Dec.{T, eqb, leb, ltb, eqb→eq}
use lib.ListN.{length, get_or, length-append}
use borrow.Author.Tests.{lt-ltb, ne_eqb, le-leb, lt-leb}
use Rattle.std.specs.Prelude.{Ok}
use Rattle.rules.specs.Refusals.{first, unless}
use Rattle.rules.specs.Point.{x_of, y_of}
use Rattle.rules.specs.Tools.{all_below, gather, only}
use Rattle.rules.specs.Answers.{answer}
use Rattle.rules.proofs.Logic.{all-elim, and_left, and_right, not-false}
use Rattle.rules.proofs.Lists.{gather-front, gather_cong}
use Rattle.rules.proofs.Refusals.{none_first}
use Rattle.text.specs.Bytes.{blank, comma, digit_zero, capital_a, space, trim, trim_start, trim_end, keep_end, has, parts, text_refusal}
use Rattle.text.specs.Points.{column_of, digit_value, number_of, column_in, row_in, place_refusal, item_refusal, item_code}
use Rattle.text.specs.Points.{items_refusal, item_codes, points_refusal, points_in, point_text_refusal, list_text_refusal}
use Rattle.text.proofs.Places.{parts_whole}
use Rattle.display.specs.Texts.{digit_text, number_text, point_text, item_text, point_item, points_text}
use Rattle.display.proofs.Sizes.{point-short}
use Rattle.display.proofs.Shown.{All, all_append, all-gather, all-text, only_one, number-has, parts-line}

-- ---- a point

-- the text of p is not refused, names p, and has no comma
reads : ℕ → Bool
reads p = eqb (item_refusal (point_text p)) 0 && (eqb (item_code (point_text p)) p && not (has comma (point_text p)))

all_read : T (all_below 225 reads)
unfolding reads point_text number_text item_refusal item_code place_refusal column_in row_in column_of number_of digit_value
    trim trim_start trim_end keep_end space has first unless all_below
all_read = tt

module _ (p : ℕ) (h : p < 225) where
  reading : T (eqb (item_refusal (point_text p)) 0 && (eqb (item_code (point_text p)) p && not (has comma (point_text p))))
  unfolding reads
  reading = all-elim 225 reads all_read p h

  rest : T (eqb (item_code (point_text p)) p && not (has comma (point_text p)))
  rest = and_right (eqb (item_refusal (point_text p)) 0) (eqb (item_code (point_text p)) p && not (has comma (point_text p))) reading

  point-good : item_refusal (point_text p) ≡ 0
  point-good =
      eqb→eq (item_refusal (point_text p)) 0
      (and_left (eqb (item_refusal (point_text p)) 0) (eqb (item_code (point_text p)) p && not (has comma (point_text p))) reading)

  point-code : item_code (point_text p) ≡ p
  point-code = eqb→eq (item_code (point_text p)) p (and_left (eqb (item_code (point_text p)) p) (not (has comma (point_text p))) rest)

  no-comma : has comma (point_text p) ≡ false
  no-comma = not-false (and_right (eqb (item_code (point_text p)) p) (not (has comma (point_text p))) rest)

  -- its bytes are a letter and digits
  point-has : (P : ℕ → Type 0) → ((x : ℕ) → x < 15 → P (capital_a + x)) → ((d : ℕ) → d < 10 → P (digit_zero + d)) → All P (point_text p)
  unfolding point_text
  point-has P letter digit = rw (lt-ltb p 225 h) (letter (x_of p) (omega arith), number-has P digit (y_of p + 1) (omega arith))

  point-low : All (λ b. b < 128) (point_text p)
  point-low = point-has (λ b. b < 128) (λ x l. omega arith) (λ d l. omega arith)

  -- a point that is written reads back as the same point: `text::read_point` of what `write_point` writes
  pub point-back : answer (point_text_refusal (point_text p)) (item_code (point_text p)) ≡ Ok p
  unfolding answer point_text_refusal first
  point-back = rw (all-text (point_text p) point-low (omega (arith, point-short p)), point-good, point-code)

-- ---- a list of points, from the front on

-- each code is a point's
abbrev pub Points : List ℕ → Type 0
Points [] = Unit {0}
Points (c ∷ codes) = (c < 225) × Points codes

-- the points behind the first, each after a comma
behind : List ℕ → List ℕ
behind [] = []
behind (c ∷ codes) = comma ∷ point_text c ++ behind codes

-- each point's text
texts : List ℕ → List (List ℕ)
texts [] = []
texts (c ∷ codes) = point_text c ∷ texts codes

items-behind : (codes : List ℕ) → gather (length codes) (λ i. comma ∷ point_text (get_or codes i 0)) ≡ behind codes
unfolding gather behind
items-behind [] = refl
items-behind (c ∷ codes) =
    gather-front (length codes) (λ i. comma ∷ point_text (get_or (c ∷ codes) i 0)) ∙ ap (λ (l : List ℕ). comma ∷ point_text c ++ l)
    (items-behind codes)

shape : (c : ℕ) (codes : List ℕ) → points_text (c ∷ codes) ≡ point_text c ++ behind codes
unfolding points_text item_text
shape c codes =
    gather-front (length codes) (point_item (c ∷ codes))
    ∙ ap (λ (l : List ℕ). point_text c ++ l)
    (gather_cong (length codes) (λ i. point_item (c ∷ codes) (suc i)) (λ i. comma ∷ point_text (get_or codes i 0))
    (λ i _. rw (lt-ltb 0 (suc i) (omega arith)))
    ∙ items-behind codes)

-- ---- no white space at its ends, and the parts between its commas

point-some : (c : ℕ) → c < 225 → 0 < length (point_text c)
unfolding point_text
point-some c h = rw (lt-ltb c 225 h) (omega arith)

start-kept : (c : ℕ) (s : List ℕ) → c < 225 → trim_start (point_text c ++ s) ≡ point_text c ++ s
unfolding trim_start space point_text
start-kept c s h =
    let b = capital_a + x_of c in
    rw (lt-ltb c 225 h) (rw (ne_eqb b blank (λ e. omega arith), le-leb 9 b (omega arith), lt-leb b 13 (omega arith)))

keep_some : (a : ℕ) (s : List ℕ) → 0 < length s → keep_end a s ≡ a ∷ s
unfolding keep_end
keep_some a [] h = absurd (not-suc-le-zero h)
keep_some a (b ∷ s) h = refl

end-append : (s : List ℕ) (b : ℕ) (t : List ℕ) → trim_end (b ∷ t) ≡ b ∷ t → trim_end (s ++ (b ∷ t)) ≡ s ++ (b ∷ t)
unfolding trim_end
end-append [] b t e = e
end-append (a ∷ s) b t e =
    ap (keep_end a) (end-append s b t e) ∙ keep_some a (s ++ (b ∷ t)) (omega (arith, length-append s (b ∷ t)))

digit-end : (d : ℕ) → trim_end ((digit_zero + d) ∷ []) ≡ (digit_zero + d) ∷ []
unfolding trim_end keep_end space
digit-end d =
    let b = digit_zero + d in
    rw (ne_eqb b blank (λ e. omega arith), le-leb 9 b (omega arith), lt-leb b 13 (omega arith))

point-end : (c : ℕ) → c < 225 → trim_end (point_text c) ≡ point_text c
unfolding point_text number_text
point-end c h =
    let n = y_of c + 1 in
    rw (lt-ltb c 225 h) (end-append ((capital_a + x_of c) ∷ (only (leb 100 n) (digit_text (n / 100)) ++ only (leb 10 n)
    (digit_text (n / 10 % 10))))
    (digit_zero + n % 10) [] (digit-end (n % 10)))

end_kept : (c : ℕ) (codes : List ℕ) → Points (c ∷ codes) → trim_end (point_text c ++ behind codes) ≡ point_text c ++ behind codes
unfolding behind trim_end
end_kept c [] h = rw append-nil (point-end c h.0)
end_kept c (d ∷ codes) h =
    end-append (point_text c) comma (point_text d ++ behind codes)
    (ap (keep_end comma) (end_kept d codes h.1)
    ∙ keep_some comma (point_text d ++ behind codes)
    (omega (arith, length-append (point_text d) (behind codes), point-some d h.1.0)))

list-parts : (c : ℕ) (codes : List ℕ) → Points (c ∷ codes) → parts comma (point_text c ++ behind codes) ≡ point_text c ∷ texts codes
unfolding behind texts
list-parts c [] h = rw append-nil (parts_whole comma (point_text c) (no-comma c h.0))
list-parts c (d ∷ codes) h =
    parts-line comma (point_text c) (point_text d ++ behind codes) (no-comma c h.0) refl
    ∙ ap (λ (l : List (List ℕ)). point_text c ∷ l) (list-parts d codes h.1)

pub list-trim : (c : ℕ) (codes : List ℕ) → Points (c ∷ codes) → trim (points_text (c ∷ codes)) ≡ points_text (c ∷ codes)
unfolding trim
list-trim c codes h = rw (shape c codes, start-kept c (behind codes) h.0, end_kept c codes h)

-- .. also where another text stands behind it, or before it
pub list-start : (c : ℕ) (codes t : List ℕ) → Points (c ∷ codes) → trim_start (points_text (c ∷ codes) ++ t) ≡ points_text (c ∷ codes) ++ t
list-start c codes t h = rw (shape c codes, append_assoc (point_text c) (behind codes) t) (start-kept c (behind codes ++ t) h.0)

end-behind : (s t : List ℕ) → 0 < length t → trim_end t ≡ t → trim_end (s ++ t) ≡ s ++ t
end-behind s [] l e = absurd (not-suc-le-zero l)
end-behind s (b ∷ t) l e = end-append s b t e

pub list-some : (c : ℕ) (codes : List ℕ) → Points (c ∷ codes) → 0 < length (points_text (c ∷ codes))
list-some c codes h = rw (shape c codes) (omega (arith, length-append (point_text c) (behind codes), point-some c h.0))

pub list-end : (s : List ℕ) (c : ℕ) (codes : List ℕ) → Points (c ∷ codes) → trim_end (s ++ points_text (c ∷ codes)) ≡ s ++ points_text (c ∷ codes)
list-end s c codes h = end-behind s (points_text (c ∷ codes)) (list-some c codes h) (rw (shape c codes) (end_kept c codes h))

list-shape : (c : ℕ) (codes : List ℕ) → Points (c ∷ codes) → parts comma (trim (points_text (c ∷ codes))) ≡ texts (c ∷ codes)
unfolding texts
list-shape c codes h = rw (list-trim c codes h, shape c codes) (list-parts c codes h)

-- ---- what is read

texts-good : (codes : List ℕ) → Points codes → items_refusal (texts codes) ≡ 0
unfolding items_refusal texts
texts-good [] h = refl
texts-good (c ∷ codes) h = none_first (item_refusal (point_text c)) (items_refusal (texts codes)) (point-good c h.0)
    (texts-good codes h.1)

texts-back : (codes : List ℕ) → Points codes → item_codes (texts codes) ≡ codes
unfolding item_codes texts
texts-back [] h = refl
texts-back (c ∷ codes) h = ap₂ {C = List ℕ} (λ a l. a ∷ l) (point-code c h.0) (texts-back codes h.1)

points-at : (codes : List ℕ) → Points codes → (i : ℕ) → i < length codes → get_or codes i 0 < 225
points-at [] h i k = absurd (not-suc-le-zero k)
points-at (c ∷ codes) h zero k = h.0
points-at (c ∷ codes) h (suc i) k = points-at codes h.1 i (le_of_suc-le-suc k)

-- the bytes of a list are letters, digits and commas
pub list-has : (P : ℕ → Type 0) → ((x : ℕ) → x < 15 → P (capital_a + x)) → ((d : ℕ) → d < 10 → P (digit_zero + d)) → P comma
    → (codes : List ℕ) → Points codes → All P (points_text codes)
unfolding points_text item_text
list-has P letter digit parted codes h =
    all-gather P (length codes) (point_item codes)
    (λ i l. all_append P (only (ltb 0 i) (comma ∷ [])) (point_text (get_or codes i 0)) (only_one P (ltb 0 i) comma parted)
    (point-has (get_or codes i 0) (points-at codes h i l) P letter digit))

list-low : (codes : List ℕ) → Points codes → All (λ b. b < 128) (points_text codes)
list-low codes h = list-has (λ b. b < 128) (λ x l. omega arith) (λ d l. omega arith) (omega arith) codes h

-- A list of points, not empty, that is written in at most 4,096 bytes reads back as the same list: `text::read_points` of what
-- `write_points` writes is not refused but for the room, and gives these codes.
module _ (c : ℕ) (codes : List ℕ) (h : Points (c ∷ codes)) where
  pub list-good : points_refusal (points_text (c ∷ codes)) ≡ 0
  unfolding points_refusal
  list-good = rw (list-shape c codes h) (texts-good (c ∷ codes) h)

  pub list_read : length (points_text (c ∷ codes)) ≤ 4096 → list_text_refusal (points_text (c ∷ codes)) ≡ 0
  unfolding list_text_refusal
  list_read k =
      none_first (text_refusal (points_text (c ∷ codes))) (points_refusal (points_text (c ∷ codes)))
      (all-text (points_text (c ∷ codes)) (list-low (c ∷ codes) h) k) list-good

  pub list_back : points_in (points_text (c ∷ codes)) ≡ c ∷ codes
  unfolding points_in
  list_back = rw (list-shape c codes h) (texts-back (c ∷ codes) h)
