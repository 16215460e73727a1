-- Starts put in, taken out and left out, by the word of their numbers. Assumes nothing.
use mathlib.Core.Path.{◌≡◌, refl, sym, ap, ap₂, ◌∙◌}
use mathlib.Core.Bool.{Bool, true, false, not, ◌&&◌, ◌||◌, cond}
use mathlib.Core.List.{List}
use Prim.Native.Nat.{ℕ, ◌+◌, ◌-◌, ◌*◌, ◌%◌, ◌^◌, ◌≤◌, ◌<◌}
use native.Mathlib.Nat.{mod-lt}
use native.Mathlib.Omega.{arith}
use lib.Dec.{eqb, lit<}
use lib.Bits.{bit_and, bit_or}
use borrow.Author.Tests.{ne_eqb}
use Rattle.rules.specs.Tools.{tab}
use Rattle.rules.specs.Bit.{bit, mask_of}
use Rattle.rules.specs.Grid.{Starts, start_masks, starts_of, numbered}
use Rattle.rules.proofs.Bits.{bit-and, bit-or, bit_not, bit-one-in, bit_mask, mask-cong, mask_lt}
use Rattle.rules.proofs.Lists.{tab-cong}
use Rattle.rules.proofs.Numbered.{in-line, in_cell}

-- a word whose places are those of the starts, parted
starts-parted : (m : ℕ) (s : Starts) → ((d j : ℕ) → d < 4 → j < 16 → bit m (16 * d + j) ≡ s d j)
    → tab 4 (λ d. mask_of 16 (λ j. bit m (16 * d + j))) ≡ start_masks s
unfolding start_masks
starts-parted m s h = tab-cong 4 _ _ (λ d hd. mask-cong 16 _ _ (λ j hj. h d j hd hj))

module _ (masks : List ℕ) {w : ℕ} (e : w ≡ mask_of 64 (numbered (starts_of masks))) where
  at : (d j : ℕ) → d < 4 → j < 16 → bit w (16 * d + j) ≡ starts_of masks d j
  unfolding numbered
  at d j hd hj =
      ap (λ (x : ℕ). bit x (16 * d + j)) e ∙ bit_mask 64 _ (16 * d + j) (omega arith)
      ∙ ap₂ (starts_of masks) (in-line d j hj) (in_cell d j hj)

  module _ (k : ℕ) (on : Bool) {r : List ℕ} where
    pub put_in : on ≡ true → k < 64 → r ≡ tab 4 (λ d. mask_of 16 (λ j. bit (bit_or w ((1 * 2 ^ k) % 2 ^ 64)) (16 * d + j)))
        → r ≡ start_masks (λ d j. cond (eqb (16 * d + j) k) on (starts_of masks d j))
    put_in t hk er =
        er ∙ starts-parted _ _ (λ d j hd hj.
        bit-or w ((1 * 2 ^ k) % 2 ^ 64) (16 * d + j)
        ∙ ap₂ ◌||◌ (at d j hd hj) (bit-one-in k 64 (16 * d + j) (omega arith))
        ∙ rw t (put (starts_of masks d j) (eqb (16 * d + j) k)))
      where
        put : (s q : Bool) → (s || q) ≡ cond q true s
        put true true = refl
        put true false = refl
        put false true = refl
        put false false = refl

    pub taken_out : on ≡ false → k < 64
        → r ≡ tab 4 (λ d. mask_of 16 (λ j. bit (bit_and w ((2 ^ 64 - 1) - (1 * 2 ^ k) % 2 ^ 64)) (16 * d + j)))
        → r ≡ start_masks (λ d j. cond (eqb (16 * d + j) k) on (starts_of masks d j))
    taken_out t hk er =
        er ∙ starts-parted _ _ (λ d j hd hj.
        bit-and w ((2 ^ 64 - 1) - (1 * 2 ^ k) % 2 ^ 64) (16 * d + j)
        ∙ ap₂ ◌&&◌ (at d j hd hj)
        (bit_not ((1 * 2 ^ k) % 2 ^ 64) 64 (16 * d + j) (mod-lt (1 * 2 ^ k) (lit< tt)) (omega arith)
        ∙ ap not (bit-one-in k 64 (16 * d + j) (omega arith)))
        ∙ rw t (take (starts_of masks d j) (eqb (16 * d + j) k)))
      where
        take : (s q : Bool) → (s && not q) ≡ cond q false s
        take true true = refl
        take true false = refl
        take false true = refl
        take false false = refl

    pub no_start : 64 ≤ k → r ≡ tab 4 (λ d. mask_of 16 (λ j. bit w (16 * d + j)))
        → r ≡ start_masks (λ d j. cond (eqb (16 * d + j) k) on (starts_of masks d j))
    no_start hk er =
        er ∙ starts-parted _ _ (λ d j hd hj.
        at d j hd hj ∙ sym (ap (λ (q : Bool). cond q on (starts_of masks d j)) (ne_eqb (16 * d + j) k (λ q. omega arith))))

  pub left_out : (taken : List ℕ) {v : ℕ} {r : List ℕ} → v ≡ mask_of 64 (numbered (starts_of taken))
      → r ≡ tab 4 (λ d. mask_of 16 (λ j. bit (bit_and w ((2 ^ 64 - 1) - v)) (16 * d + j)))
      → r ≡ start_masks (λ d j. starts_of masks d j && not (starts_of taken d j))
  unfolding numbered
  left_out taken {v} ev er =
      er ∙ starts-parted _ _ (λ d j hd hj.
      bit-and w ((2 ^ 64 - 1) - v) (16 * d + j)
      ∙ ap₂ ◌&&◌ (at d j hd hj) (bit_not v 64 (16 * d + j) (rw ev (mask_lt 64 _)) (omega arith) ∙ ap not (taken_at d j hd hj)))
    where
      taken_at : (d j : ℕ) → d < 4 → j < 16 → bit v (16 * d + j) ≡ starts_of taken d j
      taken_at d j hd hj =
          ap (λ (x : ℕ). bit x (16 * d + j)) ev ∙ bit_mask 64 _ (16 * d + j) (omega arith)
          ∙ ap₂ (starts_of taken) (in-line d j hj) (in_cell d j hj)
