-- Four start masks and the starts that they name; section 5's tests by them. A row starts at most ten cells on, so that no start is lost.
-- Assumes nothing.
use mathlib.Core.Path.{◌≡◌, refl, ap, ◌∙◌}
use mathlib.Core.Bool.{Bool, true, false, ◌&&◌}
use mathlib.Core.List.{List}
use Prim.Native.Nat.{ℕ, zero, suc, ◌<◌}
use native.Mathlib.Omega.{arith}
use lib.Dec.{T, ltb}
use lib.ListN.{get_or}
use borrow.Author.Tests.{lt-ltb}
use Rattle.rules.specs.Tools.{tab}
use Rattle.rules.specs.Bit.{bit, mask_of}
use Rattle.rules.specs.Point.{line_no}
use Rattle.rules.specs.Grid.{Starts, start_masks, starts_of, rows_through}
use Rattle.rules.specs.Forbidden.{some_row, more_than_one, is_overline, is_double_four, more_twos, completes_five}
use Rattle.rules.specs.declared.Player.{Player}
use Rattle.rules.specs.declared.Player.TheVariants.{Black}
use Rattle.rules.specs.declared.RowKind.{RowKind}
use Rattle.rules.specs.declared.RowKind.TheVariants.{Two, Sword, Four, Overlining}
use Rattle.rules.proofs.Logic.{true-T, both_ways}
use Rattle.rules.proofs.Lists.{tab-cong}
use Rattle.rules.proofs.Bits.{bit_mask, mask-cong}
use Rattle.rules.proofs.Address.{size-le}
use Rattle.rules.proofs.Rows.{through-inside}
use Rattle.rules.proofs.More.{some_row-same, more_same}

mask_at : (s : Starts) (d : ℕ) → d < 4 → get_or (start_masks s) d 0 ≡ mask_of 16 (s d)
unfolding start_masks tab
mask_at s zero h = refl
mask_at s (suc zero) h = refl
mask_at s (suc (suc zero)) h = refl
mask_at s (suc (suc (suc zero))) h = refl
mask_at s (suc (suc (suc (suc d)))) h = absurd (omega arith)

-- the same starts, the same masks
pub masks-same : (s s' : Starts) → ((d j : ℕ) → d < 4 → s d j ≡ s' d j) → start_masks s ≡ start_masks s'
unfolding start_masks
masks-same s s' h = tab-cong 4 _ _ (λ d hd. mask-cong 16 (s d) (s' d) (λ j l. h d j hd))

-- starts that are all below 15 are named as they are
module _ (s : Starts) (low : (d j : ℕ) → d < 4 → T (s d j) → j < 15) where
  pub starts-named : (d j : ℕ) → d < 4 → j < 16 → starts_of (start_masks s) d j ≡ s d j
  unfolding starts_of
  starts-named d j hd hj =
      ap (λ (m : ℕ). ltb j 15 && bit m j) (mask_at s d hd) ∙ ap (λ (b : Bool). ltb j 15 && b) (bit_mask 16 (s d) j hj)
      ∙ go (s d j) refl
    where
      go : (b : Bool) → s d j ≡ b → (ltb j 15 && b) ≡ b
      go true e = ap (λ (x : Bool). x && true) (lt-ltb j 15 (low d j hd (true-T e)))
      go false e = both_ways (ltb j 15 && false) false (λ t. none (ltb j 15) t) (λ t. absurd t)
        where
          none : (x : Bool) → T (x && false) → T false
          none true t = t
          none false t = t

  module _ {m : List ℕ} (e : m ≡ start_masks s) where
    named : (d j : ℕ) → d < 4 → j < 16 → starts_of m d j ≡ s d j
    named d j hd hj = ap (λ (x : List ℕ). starts_of x d j) e ∙ starts-named d j hd hj

    pub some-masks : {b : Bool} → b ≡ some_row (starts_of m) → b ≡ some_row s
    some-masks eb = eb ∙ some_row-same (starts_of m) s named

    pub more-masks : {b : Bool} → b ≡ more_than_one (starts_of m) → b ≡ more_than_one s
    more-masks eb = eb ∙ more_same (starts_of m) s named

-- as rows through a point are
pub start-low : (r : Player) (k : RowKind) (cells : List ℕ) (p d j : ℕ) → d < 4 → T (rows_through r k cells p d j) → j < 15
start-low r k cells p d j hd t = omega (arith, through-inside r k cells p d j t, size-le d (line_no d p))

-- ---- the tests of section 5, by the start masks of Black's rows through p

module _ (cells : List ℕ) (p : ℕ) {m : List ℕ} where
  some-starts : (kind : RowKind) → m ≡ start_masks (rows_through Black kind cells p) → {b : Bool} → b ≡ some_row (starts_of m)
      → b ≡ some_row (rows_through Black kind cells p)
  some-starts kind e eb = some-masks (rows_through Black kind cells p) (start-low Black kind cells p) e eb

  more-starts : (kind : RowKind) → m ≡ start_masks (rows_through Black kind cells p) → {b : Bool} → b ≡ more_than_one (starts_of m)
      → b ≡ more_than_one (rows_through Black kind cells p)
  more-starts kind e eb = more-masks (rows_through Black kind cells p) (start-low Black kind cells p) e eb

  pub five-is : m ≡ start_masks (rows_through Black Four cells p) → {b : Bool} → b ≡ some_row (starts_of m) → b ≡ completes_five cells p
  unfolding completes_five
  five-is e eb = some-starts Four e eb

  pub overline-is : m ≡ start_masks (rows_through Black Overlining cells p) → {b : Bool} → b ≡ some_row (starts_of m)
      → b ≡ is_overline cells p
  unfolding is_overline
  overline-is e eb = some-starts Overlining e eb

  pub double-four-is : m ≡ start_masks (rows_through Black Sword cells p) → {b : Bool} → b ≡ more_than_one (starts_of m)
      → b ≡ is_double_four cells p
  unfolding is_double_four
  double-four-is e eb = more-starts Sword e eb

  pub twos-are : m ≡ start_masks (rows_through Black Two cells p) → {b : Bool} → b ≡ more_than_one (starts_of m) → b ≡ more_twos cells p
  twos-are e eb = more-starts Two e eb
