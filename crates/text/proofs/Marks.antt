-- Laws of a line in text, as the code reads it: the masks of its first cells. Assumes nothing.
use mathlib.Core.Path.{◌≡◌, ap, sym, ◌∙◌}
use mathlib.Core.Bool.{true, false, ◌&&◌, cond}
use mathlib.Core.Logic.{◌⊎◌, inl, inr}
use mathlib.Core.List.{List, [], ◌∷◌}
use Prim.Native.Nat.{ℕ, ◌+◌, ◌≤◌, ◌<◌}
use native.Mathlib.Omega.{arith}
use lib.Dec.{eqb, ltb, leb}
use lib.ListN.{length, get_or, drop, get_or-eq_default}
use borrow.Author.Tests.{eqb-true, eqb-false, lt-ltb, le-ltb, ltb-true, ltb-false, ne_eqb, le-leb, lt-leb}
use Rattle.std.specs.Prelude.{Result, Ok, Err}
use Rattle.rules.specs.Bit.{bit, mask_of}
use Rattle.rules.specs.Refusals.{unless}
use Rattle.rules.specs.Answers.{answer}
use Rattle.rules.specs.declared.refusal.Refusal.{Refusal}
use Rattle.rules.specs.declared.refusal.Refusal.TheVariants.{OverLength}
use Rattle.rules.proofs.Logic.{decide}
use Rattle.rules.proofs.Bits.{bit_mask, mask-cong, mask-none}
use Rattle.masks.specs.Masks.{placed}
use Rattle.line.specs.declared.line.Line.{Line}
use Rattle.text.specs.Bytes.{small_o, small_x, dense}
use Rattle.text.specs.Lines.{marked, line_in, length_refusal}
use Rattle.text.proofs.Dense.{next-none}

-- ---- the first x cells with the letter d, as a mask
unfoldable pub marked_to : ℕ → List ℕ → ℕ → ℕ
marked_to x cells d = mask_of 16 (λ j. ltb j x && eqb (get_or cells j 0) d)

pub marked-none : (cells : List ℕ) (d : ℕ) → 0 ≡ marked_to 0 cells d
unfolding marked_to
marked-none cells d = sym (mask-none 16 (λ j. ltb j 0 && eqb (get_or cells j 0) d) (λ j h. rw (le-ltb j 0 (omega arith))))

pub marked_more : (x d : ℕ) (cells : List ℕ) (b : ℕ) → get_or cells x 0 ≡ b
    → mask_of 16 (placed (bit (marked_to x cells d)) x (eqb b d)) ≡ marked_to (x + 1) cells d
unfolding marked_to
marked_more x d cells b e =
    mask-cong 16 (placed (bit (mask_of 16 (λ j. ltb j x && eqb (get_or cells j 0) d))) x (eqb b d))
    (λ j. ltb j (x + 1) && eqb (get_or cells j 0) d)
    (λ j h. go j h (decide (eqb j x)) (decide (ltb j x)))
  where
    go : (j : ℕ) → j < 16 → (eqb j x ≡ true) ⊎ (eqb j x ≡ false) → (ltb j x ≡ true) ⊎ (ltb j x ≡ false)
        → cond (eqb j x) (eqb b d) (bit (mask_of 16 (λ k. ltb k x && eqb (get_or cells k 0) d)) j) ≡
        (ltb j (x + 1) && eqb (get_or cells j 0) d)
    go j h (inl t) u =
        let z : j ≡ x = eqb-true j x t in
        rw (t, lt-ltb j (x + 1) (omega arith)) (ap (λ (k : ℕ). eqb k d) (sym e ∙ ap (λ (k : ℕ). get_or cells k 0) (sym z)))
    go j h (inr t) (inl u) =
        let k = ltb-true j x u in
        rw (t, lt-ltb j (x + 1) (omega arith)) (bit_mask 16 (λ k. ltb k x && eqb (get_or cells k 0) d) j h ∙ rw u)
    go j h (inr t) (inr u) =
        let k = ltb-false j x u in
        rw (t, le-ltb j (x + 1) (omega (arith, eqb-false j x t))) (bit_mask 16 (λ k. ltb k x && eqb (get_or cells k 0) d) j h ∙ rw u)

-- behind the last cell: past it there is no letter
pub marked_all : (s : List ℕ) (x d : ℕ) → length (dense s) ≤ x → 0 < d → marked_to x (dense s) d ≡ marked d s
unfolding marked_to marked
marked_all s x d h p =
    mask-cong 16 (λ j. ltb j x && eqb (get_or (dense s) j 0) d) (λ j. eqb (get_or (dense s) j 0) d) (λ j _. go j (decide (ltb j x)))
  where
    go : (j : ℕ) → (ltb j x ≡ true) ⊎ (ltb j x ≡ false) → (ltb j x && eqb (get_or (dense s) j 0) d) ≡ eqb (get_or (dense s) j 0) d
    go j (inl u) = rw u
    go j (inr u) =
        let k = ltb-false j x u in
        rw (u, get_or-eq_default (dense s) 0 {n = j} (omega arith)) (sym (ne_eqb 0 d (λ e. omega arith)))

-- ---- the line that is given back
pub line-said : (s : List ℕ) (x blacks whites : ℕ) → x ≤ 15 → x ≤ length (dense s) → [] ≡ drop x (dense s)
    → blacks ≡ marked_to x (dense s) small_o → whites ≡ marked_to x (dense s) small_x
    → ◌≡◌ {A = Result Line Refusal} (Ok (record { blacks = blacks; whites = whites; size = x })) (answer (length_refusal s) (line_in s))
unfolding line_in length_refusal unless answer
line-said s x blacks whites h k e eb ew =
    let n = next-none 0 (dense s) x (sym e) in
    let z : x ≡ length (dense s) = omega arith in
    rw (
      eb ∙ marked_all s x small_o n (omega arith),
      ew ∙ marked_all s x small_x n (omega arith),
      le-leb (length (dense s)) 15 (omega arith),
      z,
    )

pub line-long : (s : List ℕ) → 15 < length (dense s)
    → ◌≡◌ {A = Result Line Refusal} (Err OverLength) (answer (length_refusal s) (line_in s))
unfolding length_refusal unless answer
line-long s h = rw (lt-leb (length (dense s)) 15 h)
