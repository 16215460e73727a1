-- What each byte of a text has, and the lines of a text and their cells: laws for reading what was written. Assumes nothing.
use mathlib.Core.Path.{◌≡◌, refl, ap, sym, ◌∙◌}
use mathlib.Core.Bool.{Bool, true, false, ◌||◌, cond}
use mathlib.Core.List.{List, [], ◌∷◌, ◌++◌}
use Prim.Native.Nat.{ℕ, zero, suc, ◌+◌, ◌/◌, ◌%◌, ◌≤◌, ◌<◌}
use native.Mathlib.Nat.{le_of_suc-le-suc, not-suc-le-zero}
use native.Mathlib.Omega.{arith}
use lib.Dec.{leb, eqb, ltb, lt→ltb}
use lib.ListN.{length, get_or}
use borrow.Author.Tests.{le-leb}
use Rattle.rules.specs.Refusals.{first, unless}
use Rattle.rules.specs.Tools.{gather, only, all_below}
use Rattle.rules.specs.Point.{code_of}
use Rattle.rules.proofs.Logic.{no_true, all-intro, T_true}
use Rattle.text.specs.Bytes.{blank, dot, digit_zero, small_o, small_x, space, dense, has, parts, onto_first, text_refusal}
use Rattle.display.specs.Texts.{digit_text, number_text, letter_or, cell_text, line_text, row_text}

-- ---- what each byte of a text has

abbrev pub All : (ℕ → Type 0) → List ℕ → Type 0
All P [] = Unit {0}
All P (b ∷ s) = P b × All P s

pub all_append : (P : ℕ → Type 0) (s t : List ℕ) → All P s → All P t → All P (s ++ t)
all_append P [] t h k = k
all_append P (b ∷ s) t h k = (h.0, all_append P s t h.1 k)

pub all-gather : (P : ℕ → Type 0) (n : ℕ) (f : ℕ → List ℕ) → ((i : ℕ) → i < n → All P (f i)) → All P (gather n f)
unfolding gather
all-gather P zero f h = tt
all-gather P (suc n) f h = all_append P (gather n f) (f n) (all-gather P n f (λ i l. h i (omega arith))) (h n (omega arith))

pub all-at : (P : ℕ → Type 0) (s : List ℕ) → All P s → (i : ℕ) → i < length s → P (get_or s i 0)
all-at P [] h i k = absurd (not-suc-le-zero k)
all-at P (b ∷ s) h zero k = h.0
all-at P (b ∷ s) h (suc i) k = all-at P s h.1 i (le_of_suc-le-suc k)

-- a text without the byte d, and one of bytes below 128
pub all-has : (d : ℕ) (s : List ℕ) → All (λ b. eqb b d ≡ false) s → has d s ≡ false
unfolding has
all-has d [] h = refl
all-has d (b ∷ s) h = rw h.0 (all-has d s h.1)

pub all-text : (s : List ℕ) → All (λ b. b < 128) s → length s ≤ 4096 → text_refusal s ≡ 0
unfolding text_refusal first unless
all-text s h k =
    rw (
      le-leb (length s) 4096 k,
      T_true {b = all_below (length s) (λ i. ltb (get_or s i 0) 128)}
          (all-intro (length s) (λ i. ltb (get_or s i 0) 128) (λ i l. lt→ltb (get_or s i 0) 128 (all-at (λ b. b < 128) s h i l))),
    )

pub letter-has : (P : ℕ → Type 0) → P small_o → P small_x → P dot → (v : ℕ) → P (letter_or dot v)
unfolding letter_or
letter-has P o x e v = go (eqb v 1) (eqb v 2)
  where
    go : (t u : Bool) → P (cond t small_o (cond u small_x dot))
    go true u = o
    go false true = x
    go false false = e

-- a row: spaces and letters
pub row_has : (P : ℕ → Type 0) → P blank → P small_o → P small_x → P dot → (cells : List ℕ) (y : ℕ) → All P (row_text cells y)
unfolding row_text line_text
row_has P s o x e cells y = all-gather P 15 (cell_text _) (λ i _. (s, (letter-has P o x e (get_or cells (code_of i y) 0), tt)))

-- digits, of a number up to 15
pub only_one : (P : ℕ → Type 0) (b : Bool) (c : ℕ) → P c → All P (only b (c ∷ []))
only_one P true c h = (h, tt)
only_one P false c h = tt

pub number-has : (P : ℕ → Type 0) → ((d : ℕ) → d < 10 → P (digit_zero + d)) → (m : ℕ) → m ≤ 15 → All P (number_text m)
unfolding number_text
number-has P digit m h =
    all_append P (only (leb 100 m) (digit_text (m / 100)) ++ only (leb 10 m) (digit_text (m / 10 % 10))) (digit_text (m % 10))
    (all_append P (only (leb 100 m) (digit_text (m / 100))) (only (leb 10 m) (digit_text (m / 10 % 10)))
    (only_one P (leb 100 m) (digit_zero + m / 100) (digit (m / 100) (omega arith)))
    (only_one P (leb 10 m) (digit_zero + m / 10 % 10) (digit (m / 10 % 10) (omega arith)))) (digit (m % 10) (omega arith), tt)

-- ---- the lines of a text

pub parts-line : (d : ℕ) (l r : List ℕ) → has d l ≡ false → eqb d d ≡ true → parts d (l ++ d ∷ r) ≡ l ∷ parts d r
unfolding has parts onto_first
parts-line d [] r h z = rw z
parts-line d (b ∷ l) r h z = go (eqb b d) (λ e. parts-line d l r e z) h
  where
    go : (t : Bool) → (has d l ≡ false → parts d (l ++ d ∷ r) ≡ l ∷ parts d r) → (t || has d l) ≡ false
        → cond t ([] ∷ parts d (l ++ d ∷ r)) (onto_first b (parts d (l ++ d ∷ r))) ≡ (b ∷ l) ∷ parts d r
    go true r e = absurd (no_true (sym e))
    go false r e = rw (r e)

-- without white space
pub dense-append : (s t : List ℕ) → dense (s ++ t) ≡ dense s ++ dense t
unfolding dense
dense-append [] t = refl
dense-append (b ∷ s) t = go (space b) (dense-append s t)
  where
    go : (w : Bool) → dense (s ++ t) ≡ dense s ++ dense t
        → cond w (dense (s ++ t)) (b ∷ dense (s ++ t)) ≡ cond w (dense s) (b ∷ dense s) ++ dense t
    go true r = r
    go false r = ap (λ (l : List ℕ). b ∷ l) r

-- the letters of some cells
abbrev pub letters : ℕ → (ℕ → ℕ) → List ℕ
letters size value = gather size (λ i. letter_or dot (value i) ∷ [])

pub dense-cells : (size : ℕ) (value : ℕ → ℕ) → dense (gather size (cell_text value)) ≡ letters size value
unfolding gather dense space
dense-cells zero value = refl
dense-cells (suc n) value =
    let e : space (letter_or dot (value n)) ≡ false = letter-has (λ b. space b ≡ false) refl refl refl (value n) in
    dense-append (gather n (cell_text value)) (cell_text value n) ∙ rw (dense-cells n value, e)
