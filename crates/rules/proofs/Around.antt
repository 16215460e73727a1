-- The seven cells of a window's segment: asked of its own window, at cell 1, they answer as the line's window does. Assumes nothing.
use mathlib.Core.Path.{◌≡◌, refl, sym, ap, ap₂, ◌∙◌}
use mathlib.Core.Bool.{Bool, true, false, not, ◌&&◌, ◌||◌, cond}
use Prim.Native.Nat.{ℕ, suc, ◌+◌, ◌-◌, ◌<◌}
use native.Mathlib.Omega.{arith}
use lib.Dec.{T, eqb, leb, ltb, lit<}
use lib.IntN.{pos, negsuc}
use borrow.Author.Tests.{le-leb, leb-true, leb-false, lt-ltb}
use Rattle.rules.specs.Bit.{bit, mask_of}
use Rattle.rules.specs.Line.{Stones, inside, free, count, beside, dead, score, scores, holds, no_stone, stones_mask, sound_at, sound_line}
use Rattle.rules.specs.Line.{sound_segment, around, wanted}
use Rattle.rules.proofs.Logic.{and_left, and_intro, or_right, all-elim, all-intro}
use Rattle.rules.proofs.Bits.{bit_mask, bit-above, mask_lt, mask-cong}

-- the cells of the segment, as the bits of its mask
abbrev pub segment : Stones → ℕ → Stones
segment f j = bit (mask_of 7 (around f j))

-- cell k of the segment is cell j + k − 1 of the line
pub cell_at : (f : Stones) (j k i : ℕ) → k < 7 → j + k ≡ suc i → segment f j k ≡ f i
unfolding around
cell_at f j k i h e =
    bit_mask 7 (around f j) k h
    ∙ ap₂ (λ (b : Bool) (m : ℕ). b && f m) (le-leb 1 (j + k) (omega arith)) (let q : j + k - 1 ≡ i = omega arith in q)

-- the cell before the window, if there is one
pub cell-before : (f : Stones) (j : ℕ) → segment f j 0 ≡ (leb 1 j && f (j - 1))
unfolding around
cell-before f j = bit_mask 7 (around f j) 0 (lit< tt) ∙ ap (λ (i : ℕ). leb 1 i && f (i - 1)) (let q : j + 0 ≡ j = omega arith in q)

module _ (f : Stones) (j : ℕ) where
  cell1 : segment f j 1 ≡ f j
  cell1 = cell_at f j 1 j (lit< tt) (omega arith)

  cell2 : segment f j 2 ≡ f (j + 1)
  cell2 = cell_at f j 2 (j + 1) (lit< tt) (omega arith)

  cell3 : segment f j 3 ≡ f (j + 2)
  cell3 = cell_at f j 3 (j + 2) (lit< tt) (omega arith)

  cell4 : segment f j 4 ≡ f (j + 3)
  cell4 = cell_at f j 4 (j + 3) (lit< tt) (omega arith)

  cell5 : segment f j 5 ≡ f (j + 4)
  cell5 = cell_at f j 5 (j + 4) (lit< tt) (omega arith)

  cell6 : segment f j 6 ≡ f (j + 5)
  cell6 = cell_at f j 6 (j + 5) (lit< tt) (omega arith)

  pub free-around : free (segment f j) 1 ≡ free f j
  unfolding free
  free-around = simp (cell1, cell2, cell3, cell4, cell5)

  pub count-around : count (segment f j) 1 ≡ count f j
  unfolding count
  count-around = simp (cell1, cell2, cell3, cell4, cell5)

  pub beside-around : beside (segment f j) 1 ≡ beside f j
  unfolding beside
  beside-around = simp (cell6, cell-before f j)

  pub stones-around : stones_mask (segment f j) 1 ≡ stones_mask f j
  unfolding stones_mask
  stones-around = mask-cong 5 (λ k. segment f j (1 + k)) (λ k. f (j + k)) (λ k h. cell_at f j (1 + k) (j + k) (omega arith) (omega arith))

module _ (own other : Stones) (j : ℕ) where
  pub dead-around : (black : Bool) → dead black (segment own j) (segment other j) 1 ≡ dead black own other j
  unfolding dead
  dead-around black =
      ap₂ (λ (f b : Bool). not f || black && b) (free-around other j) (beside-around own j)

  pub last-around : no_stone (segment own j) (segment other j) 5 ≡ no_stone own other (j + 4)
  unfolding no_stone
  last-around = ap₂ (λ (a b : Bool). not a && not b) (cell5 own j) (cell5 other j)

  pub scores-around : (black : Bool) (size n : ℕ) → inside size j ≡ true
      → scores black 7 (segment own j) (segment other j) n 1 ≡ scores black size own other n j
  unfolding scores inside
  scores-around black size n e =
      ap₂ (λ (d : Bool) (c : ℕ). not d && eqb c n) (dead-around black) (count-around own j)
      ∙ sym (ap (λ (b : Bool). b && not (dead black own other j) && eqb (count own j) n) e)

  pub holds-around : (size n : ℕ) → inside size j ≡ true → holds 7 (segment own j) (segment other j) n 1 ≡ holds size own other n j
  unfolding holds inside
  holds-around size n e =
      ap₂ (λ (d : Bool) (c : ℕ). d && eqb c n) (free-around other j) (count-around own j)
      ∙ sym (ap (λ (b : Bool). b && free other j && eqb (count own j) n) e)

  pub score-around : (black : Bool) → score black (segment own j) (segment other j) 1 ≡ score black own other j
  unfolding score
  score-around black = ap₂ (λ (d : Bool) (c : ℕ). cond d (negsuc 0) (pos c)) (dead-around black) (count-around own j)

  pub wanted-around : (black : Bool) → wanted black (segment own j) (segment other j) 1 ≡ wanted black own other j
  unfolding wanted
  wanted-around black =
      mask-cong 5 (λ k. not (dead black (segment own j) (segment other j) 1) && not (segment own j (1 + k)))
      (λ k. not (dead black own other j) && not (own (j + k)))
      (λ k h. ap₂ (λ (d b : Bool). not d && not b) (dead-around black) (cell_at own j (1 + k) (j + k) (omega arith) (omega arith)))

-- no cell of a sound line's segment has both colours
not-both : (size : ℕ) (b w : Stones) (j k : ℕ) → j + 5 < 16 → k < 7 → T (sound_line size b w) → T (not (around b j k && around w j k))
unfolding sound_line sound_at around
not-both size b w j k h g t = go (leb 1 (j + k)) refl
  where
    go : (q : Bool) → leb 1 (j + k) ≡ q → T (not ((q && b (j + k - 1)) && (q && w (j + k - 1))))
    go false e = tt
    go true e =
        and_left (not (b (j + k - 1) && w (j + k - 1))) (ltb (j + k - 1) size || no_stone b w (j + k - 1))
        (all-elim 16 (sound_at size b w) t (j + k - 1) (omega arith))

-- the segment of a sound line's window is sound, so that no question about it is refused
pub sound-around : (size : ℕ) (b w : Stones) (j : ℕ) → j + 5 < 16 → T (sound_line size b w) → T (sound_segment (segment b j) (segment w j))
unfolding sound_line sound_at no_stone
sound-around size b w j h t = all-intro 16 (sound_at 7 (segment b j) (segment w j)) (λ k _. cell k (leb 7 k) refl)
  where
    none : (f : Stones) (k : ℕ) → leb 7 k ≡ true → segment f j k ≡ false
    none f k e = bit-above (mask_of 7 (around f j)) 7 k (mask_lt 7 (around f j)) (leb-true 7 k e)

    cell : (k : ℕ) (q : Bool) → leb 7 k ≡ q
        → T (not (segment b j k && segment w j k) && (ltb k 7 || not (segment b j k) && not (segment w j k)))
    cell k true e = rw (none b k e, none w k e) (or_right (ltb k 7) true tt)
    cell k false e =
        let g : k < 7 = leb-false 7 k e in
        let here : ltb k 7 ≡ true = lt-ltb k 7 g in
        rw (here, bit_mask 7 (around b j) k g, bit_mask 7 (around w j) k g) (and_intro (not (around b j k && around w j k)) true
        (not-both size b w j k h g t) tt)
