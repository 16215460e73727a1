-- A line that is written reads back as the same line. Assumes nothing.
use mathlib.Core.Path.{◌≡◌, refl, ap, sym, subst, ◌∙◌}
use mathlib.Core.Bool.{Bool, true, false, not, ◌&&◌, ◌||◌}
use mathlib.Core.Logic.{◌⊎◌, inl, inr}
use mathlib.Core.List.{[], ◌∷◌, ◌++◌}
use Prim.Native.Nat.{ℕ, zero, suc, ◌≤◌, ◌<◌, ◌^◌}
use native.Mathlib.Omega.{arith}
use lib.Dec.{T, eqb, leb, ltb, leb→le}
use lib.ListN.{length, get_or, length-append, get_or-append, get_or-eq_default}
use lib.Seq.{get_or_at}
use borrow.Author.Tests.{le-leb, le-ltb, ltb-true, ltb-false}
use Rattle.std.specs.Prelude.{Ok}
use Rattle.rules.specs.Refusals.{first, unless}
use Rattle.rules.specs.Answers.{answer}
use Rattle.rules.specs.Tools.{gather, all_below}
use Rattle.rules.specs.Bit.{bit}
use Rattle.rules.specs.Line.{no_stone, sound_at, sound_line}
use Rattle.rules.specs.Grid.{value_of}
use Rattle.rules.proofs.Logic.{decide, all-elim, and_left, and_right, not-false}
use Rattle.rules.proofs.Bits.{mask-ext}
use Rattle.rules.proofs.Refusals.{first-none, passed}
use Rattle.line.specs.Lines.{blacks, whites, size_refusal, line_refusal}
use Rattle.line.specs.declared.line.Line.{Line}
use Rattle.text.specs.Bytes.{dot, small_o, small_x, dense}
use Rattle.text.specs.Lines.{marked, length_refusal, line_in, line_text_refusal}
use Rattle.display.specs.Texts.{letter_or, values_of, cell_text, line_text, text_of_line}
use Rattle.display.proofs.Sizes.{line-short}
use Rattle.display.proofs.Shown.{all-gather, all-text, letter-has, letters, dense-cells}

-- ---- the letters of some cells
letters-length : (n : ℕ) (value : ℕ → ℕ) → length (letters n value) ≡ n
unfolding gather
letters-length zero value = refl
letters-length (suc n) value =
    let e = length-append (letters n value) (letter_or dot (value n) ∷ []) in
    let r = letters-length n value in
    omega arith

letters-at : (n : ℕ) (value : ℕ → ℕ) (i : ℕ) → i < n → get_or (letters n value) i 0 ≡ letter_or dot (value i)
unfolding gather
letters-at zero value i h = omega arith
letters-at (suc n) value i h = go (decide (ltb i n)) (letters-at n value i)
  where
    go : (ltb i n ≡ true) ⊎ (ltb i n ≡ false) → (i < n → get_or (letters n value) i 0 ≡ letter_or dot (value i))
        → get_or (letters n value ++ (letter_or dot (value n) ∷ [])) i 0 ≡ letter_or dot (value i)
    go (inl t) r =
        let l = ltb-true i n t in
        get_or-append (letters n value) (letter_or dot (value n) ∷ []) 0 i (omega (arith, letters-length n value)) ∙ r l
    go (inr t) r =
        let l = ltb-false i n t in
        let e : i ≡ n = omega arith in
        rw e (get_or_at (letters n value) (letter_or dot (value n)) [] 0 n (letters-length n value))

-- ---- a letter says whose stone stands there
black-said : (b w : Bool) → eqb (letter_or dot (value_of b w)) small_o ≡ b
unfolding letter_or
black-said true w = refl
black-said false true = refl
black-said false false = refl

white-said : (b w : Bool) → (b && w) ≡ false → eqb (letter_or dot (value_of b w)) small_x ≡ w
unfolding letter_or
white-said true true e = sym e
white-said true false e = refl
white-said false true e = refl
white-said false false e = refl

-- ---- the whole
module _ (l : Line) (good : line_refusal l ≡ 0) where
  size_in : (5 ≤ l.size) × (l.size ≤ 15)
  unfolding line_refusal size_refusal
  size_in =
      let t = passed (leb 5 l.size && leb l.size 15) 9 (first-none (unless (leb 5 l.size && leb l.size 15) 10) _ good).0 in (
        leb→le 5 l.size (and_left (leb 5 l.size) (leb l.size 15) t),
        leb→le l.size 15
            (and_right (leb 5 l.size) (leb l.size 15) t),
      )

  sound : (i : ℕ) → i < 16 → T (not (blacks l i && whites l i) && (ltb i l.size || no_stone (blacks l) (whites l) i))
  unfolding line_refusal sound_line sound_at
  sound i h =
      all-elim 16 (sound_at l.size (blacks l) (whites l))
      (passed (all_below 16 (sound_at l.size (blacks l) (whites l))) 8 (first-none (size_refusal l.size) _ good).1) i h

  -- no cell has both colours, and past the end there is none
  not-both : (i : ℕ) → i < 16 → (blacks l i && whites l i) ≡ false
  not-both i h =
      not-false (and_left (not (blacks l i && whites l i)) (ltb i l.size || no_stone (blacks l) (whites l) i) (sound i h))

  past : (i : ℕ) → i < 16 → l.size ≤ i → T (no_stone (blacks l) (whites l) i)
  past i h k =
      subst (λ (b : Bool). T (b || no_stone (blacks l) (whites l) i)) (le-ltb i l.size k)
      (and_right (not (blacks l i && whites l i)) (ltb i l.size || no_stone (blacks l) (whites l) i) (sound i h))

  cells_are : dense (text_of_line l) ≡ letters l.size (values_of (blacks l) (whites l))
  unfolding text_of_line line_text
  cells_are = dense-cells l.size (values_of (blacks l) (whites l))

  cell_at : (i : ℕ) → i < l.size → get_or (dense (text_of_line l)) i 0 ≡ letter_or dot (value_of (blacks l i) (whites l i))
  cell_at i h = rw cells_are (letters-at l.size (values_of (blacks l) (whites l)) i h)

  cell-past : (i : ℕ) → l.size ≤ i → get_or (dense (text_of_line l)) i 0 ≡ 0
  cell-past i h =
      rw cells_are
      (get_or-eq_default (letters l.size (values_of (blacks l) (whites l))) 0 {n = i}
      (omega (arith, letters-length l.size (values_of (blacks l) (whites l)))))

  black-bit : (i : ℕ) → i < 16 → bit l.blacks i ≡ eqb (get_or (dense (text_of_line l)) i 0) small_o
  unfolding no_stone
  black-bit i h = go (decide (ltb i l.size))
    where
      go : (ltb i l.size ≡ true) ⊎ (ltb i l.size ≡ false) → bit l.blacks i ≡ eqb (get_or (dense (text_of_line l)) i 0) small_o
      go (inl t) = rw (cell_at i (ltb-true i l.size t)) (sym (black-said (blacks l i) (whites l i)))
      go (inr t) =
          let k = ltb-false i l.size t in
          rw (cell-past i k) (not-false (and_left (not (blacks l i)) (not (whites l i)) (past i h k)))

  white-bit : (i : ℕ) → i < 16 → bit l.whites i ≡ eqb (get_or (dense (text_of_line l)) i 0) small_x
  unfolding no_stone
  white-bit i h = go (decide (ltb i l.size))
    where
      go : (ltb i l.size ≡ true) ⊎ (ltb i l.size ≡ false) → bit l.whites i ≡ eqb (get_or (dense (text_of_line l)) i 0) small_x
      go (inl t) = rw (cell_at i (ltb-true i l.size t)) (sym (white-said (blacks l i) (whites l i) (not-both i h)))
      go (inr t) =
          let k = ltb-false i l.size t in
          rw (cell-past i k) (not-false (and_right (not (blacks l i)) (not (whites l i)) (past i h k)))

  size-said : length (dense (text_of_line l)) ≡ l.size
  size-said = ap length cells_are ∙ letters-length l.size (values_of (blacks l) (whites l))

  line-pass : line_text_refusal (text_of_line l) ≡ 0
  unfolding line_text_refusal length_refusal first unless text_of_line line_text
  line-pass =
      rw (
        all-text (text_of_line l)
            (all-gather (λ b. b < 128) l.size (cell_text _)
            (λ i _. (
              omega arith,
              (
                letter-has (λ b. b < 128) (omega arith) (omega arith) (omega arith)
                    (values_of (blacks l) (whites l) i),
                tt,
              ),
            )))
            (omega (arith, line-short l size_in.1)),
        size-said,
        le-leb l.size 15 size_in.1,
      )

  -- a sound line that is written reads back as the same line: `text::read_line` of what `write_line` writes. Its masks have 16 bits.
  pub line-back : l.blacks < 2 ^ 16 → l.whites < 2 ^ 16
      → answer (line_text_refusal (text_of_line l)) (line_in (text_of_line l)) ≡ Ok l
  unfolding answer line_in marked
  line-back b w =
      rw (
        line-pass,
        ← mask-ext 16 l.blacks (λ i. eqb (get_or (dense (text_of_line l)) i 0) small_o) b black-bit,
        ← mask-ext 16 l.whites (λ i. eqb (get_or (dense (text_of_line l)) i 0) small_x) w white-bit,
        size-said,
      )
