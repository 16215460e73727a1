-- The line through a point, read off the cells from its last cell back: what was read moves on by one place, and the cell's stone comes in
-- front of it. Assumes nothing.
use mathlib.Core.Path.{◌≡◌, refl, ap, ap₂, sym, ◌∙◌}
use mathlib.Core.Bool.{Bool, false}
use mathlib.Core.List.{List}
use Prim.Native.Nat.{ℕ, zero, suc, ◌+◌, ◌-◌, ◌*◌, ◌/◌, ◌%◌, ◌≤◌, ◌<◌}
use native.Mathlib.Nat.{add-zero, mul-add, mul_comm, mul-le-mul}
use native.Mathlib.Omega.{arith}
use lib.Dec.{eqb}
use lib.ListN.{get_or}
use lib.Bits.{bit_and}
use Rattle.rules.specs.Numbers.{colour_no}
use Rattle.rules.specs.Bit.{digit, mask_of}
use Rattle.rules.specs.Point.{line_no, cell_no, line_size, step_of}
use Rattle.rules.specs.Grid.{stone_at}
use Rattle.rules.specs.declared.Player.{Player}
use Rattle.rules.specs.declared.Player.TheVariants.{Black, White}
use Rattle.rules.proofs.Bits.{digit_lt, mask-cong, mask-none, mask_lt}
use Rattle.rules.proofs.Address.{line-here, point-lt, size-le, step-le, step_back, step-at, walk_to}
use Rattle.rules.proofs.Rows.{stone-in, stone-out}

-- ---- a cell's stone as a number

pub halves_of : (v : ℕ) → v ≤ 2 → bit_and (v * 32769) 65537 ≡ digit (eqb v 1) + 65536 * digit (eqb v 2)
halves_of zero h = refl
halves_of (suc zero) h = refl
halves_of (suc (suc zero)) h = refl
halves_of (suc (suc (suc v))) h = absurd (omega arith)

pub halves-le : (v : ℕ) {n : ℕ} → n ≡ digit (eqb v 1) + 65536 * digit (eqb v 2) → n ≤ 65537
halves-le v e = let a = digit_lt (eqb v 1) in let b = digit_lt (eqb v 2) in omega (arith, e)

-- ---- a mask with one more place in front

mask_step : (w : ℕ) (f : ℕ → Bool) → mask_of (suc w) f ≡ mask_of w (λ j. f (suc j)) * 2 + digit (f 0)
unfolding mask_of
mask_step w f = refl

-- nothing at the last place
shorter : (w : ℕ) (f : ℕ → Bool) → f w ≡ false → mask_of (suc w) f ≡ mask_of w f
unfolding mask_of
shorter zero f e = ap (λ (b : Bool). 0 * 2 + digit b) e
shorter (suc w) f e = ap (λ (m : ℕ). m * 2 + digit (f 0)) (shorter w (λ j. f (suc j)) e)

in-front : (f : ℕ → Bool) (i : ℕ) → f (suc i + 14) ≡ false
    → mask_of 15 (λ k. f (i + k)) ≡ mask_of 15 (λ k. f (suc i + k)) * 2 + digit (f i)
in-front f i e =
    mask_step 14 (λ k. f (i + k))
    ∙ ap₂ (λ (m : ℕ) (b : Bool). m * 2 + digit b)
    (mask-cong 14 (λ k. f (i + suc k)) (λ k. f (suc i + k)) (λ k h. ap f (omega arith)) ∙ sym (shorter 14 (λ k. f (suc i + k)) e))
    (ap f (add-zero i))

-- ---- the walk back, at cell j

pub back-le : (d p : ℕ) → d < 4 → p < 225 → {cell step : ℕ} → cell ≡ cell_no d p → step ≡ step_of d → cell * step ≤ p
back-le d p hd hp a b = rw (a, b) (step_back d p hd hp)

pub long-le : (d line : ℕ) {size step : ℕ} → size ≡ line_size d line → step ≡ step_of d → size * step ≤ 240
long-le d line es et = mul-le-mul {n₂ = 15} {m₂ = 16} (omega (arith, es, size-le d line)) (omega (arith, et, step-le d))

pub record Read (cells : List ℕ) (d p size step q both j : ℕ) : Type 0 where
  pub cells-long : size ≡ line_size d (line_no d p)
  pub step_is : step ≡ step_of d
  pub stands : q ≡ walk_to d p j
  pub within : j ≤ size
  pub halves : both
      ≡ mask_of 15 (λ k. stone_at Black cells d (line_no d p) (j + k)) + 65536 * mask_of 15 (λ k. stone_at White cells d (line_no d p) (j + k))

pub read-at : (cells : List ℕ) (d p : ℕ) {size step q both i j : ℕ} → i ≡ j → Read cells d p size step q both j
    → Read cells d p size step q both i
read-at cells d p e w = rw e w

module _ (cells : List ℕ) (d p : ℕ) {size step : ℕ} where
  pub read-start : {line cell : ℕ} → line ≡ line_no d p → size ≡ line_size d line → cell ≡ cell_no d p → step ≡ step_of d
      → Read cells d p size step (p - cell * step + size * step) 0 size
  read-start el es ec et =
      record {
        cells-long = long;
        step_is = et;
        stands = rw (ec, et) (ap (λ (x : ℕ). p - cell_no d p * step_of d + x) (mul_comm size (step_of d)));
        within = omega arith;
        halves = sym (ap₂ (λ (a b : ℕ). a + 65536 * b) (none Black) (none White));
      }
    where
      long : size ≡ line_size d (line_no d p)
      long = es ∙ ap (line_size d) el

      none : (r : Player) → mask_of 15 (λ k. stone_at r cells d (line_no d p) (size + k)) ≡ 0
      none r = mask-none 15 _ (λ k h. stone-out r cells d (line_no d p) (size + k) (omega (arith, long)))

  module _ {q both j : ℕ} (w : Read cells d p size step q both j) where
    small : both < 2147450880
    small =
        let a = mask_lt 15 (λ k. stone_at Black cells d (line_no d p) (j + k)) in
        let b = mask_lt 15 (λ k. stone_at White cells d (line_no d p) (j + k)) in
        omega (arith, w.halves)

    pub room : both * 2 + 65537 < 4294967296
    room = omega (arith, small)

    pub read-end : j ≤ 0 → (both % 65536 ≡ mask_of 16 (stone_at Black cells d (line_no d p)))
        × (both / 65536 ≡ mask_of 16 (stone_at White cells d (line_no d p)))
    read-end h =
        let a = mask_lt 15 (stone_at Black cells d (line_no d p)) in
        let b = mask_lt 15 (stone_at White cells d (line_no d p)) in
        let e = w.halves ∙ ap₂ (λ (a b : ℕ). a + 65536 * b) (at Black) (at White) in (
          low _ (mask_of 15 (stone_at White cells d (line_no d p))) e a ∙ sym (whole Black),
          high (mask_of 15 (stone_at Black cells d (line_no d p))) _ e a ∙ sym (whole White),
        )
      where
        at : (r : Player) → mask_of 15 (λ k. stone_at r cells d (line_no d p) (j + k)) ≡ mask_of 15 (stone_at r cells d (line_no d p))
        at r = mask-cong 15 _ _ (λ k l. ap (stone_at r cells d (line_no d p)) (omega arith))

        whole : (r : Player) → mask_of 16 (stone_at r cells d (line_no d p)) ≡ mask_of 15 (stone_at r cells d (line_no d p))
        whole r = shorter 15 (stone_at r cells d (line_no d p)) (stone-out r cells d (line_no d p) 15 (size-le d (line_no d p)))

        low : (m n : ℕ) → both ≡ m + 65536 * n → m < 32768 → both % 65536 ≡ m
        low m n e l = omega arith

        high : (m n : ℕ) → both ≡ m + 65536 * n → m < 32768 → both / 65536 ≡ n
        high m n e l = omega arith

    module _ (hd : d < 4) (hp : p < 225) (h : 0 < j) where
      before : j - 1 < line_size d (line_no d p)
      before = omega (arith, w.within, w.cells-long)

      times : (s : ℕ) → s * j ≡ s * (j - 1) + s
      times s =
          let b : j - 1 + 1 ≡ j = omega arith in
          ap (λ (x : ℕ). s * x) (sym b) ∙ mul-add s (j - 1) 1 ∙ omega arith

      pub step_room : step ≤ q
      step_room = omega (arith, w.stands, w.step_is, times (step_of d))

      stands-before : q - step ≡ walk_to d p (j - 1)
      stands-before = omega (arith, w.stands, w.step_is, times (step_of d))

      pub stands-lt : q - step < 225
      stands-lt = rw (stands-before ∙ step-at d p hd hp (j - 1) before) (point-lt d (line_no d p) (j - 1) hd (line-here d p hd hp) before)

      stone-there : (r : Player) → eqb (get_or cells (q - step) 0) (colour_no r) ≡ stone_at r cells d (line_no d p) (j - 1)
      stone-there r =
          ap (λ (x : ℕ). eqb (get_or cells x 0) (colour_no r)) (stands-before ∙ step-at d p hd hp (j - 1) before)
          ∙ sym (stone-in r cells d (line_no d p) (j - 1) before)

      more : (r : Player) → mask_of 15 (λ k. stone_at r cells d (line_no d p) (j - 1 + k))
          ≡ mask_of 15 (λ k. stone_at r cells d (line_no d p) (j + k)) * 2 + digit (eqb (get_or cells (q - step) 0) (colour_no r))
      more r =
          in-front (stone_at r cells d (line_no d p)) (j - 1)
          (stone-out r cells d (line_no d p) (suc (j - 1) + 14) (omega (arith, size-le d (line_no d p))))
          ∙ ap₂ (λ (m : ℕ) (b : Bool). m * 2 + digit b)
          (mask-cong 15 _ _ (λ k l. ap (stone_at r cells d (line_no d p)) (omega arith))) (sym (stone-there r))

      pub read-on : {v n : ℕ} → v ≡ get_or cells (q - step) 0 → n ≡ digit (eqb v 1) + 65536 * digit (eqb v 2)
          → Read cells d p size step (q - step) (both * 2 + n) (j - 1)
      read-on ev en =
          record {
            cells-long = w.cells-long;
            step_is = w.step_is;
            stands = stands-before;
            within = omega (arith, w.within);
            halves = omega (
              arith,
              w.halves,
              more Black,
              more White,
              en ∙ ap (λ (x : ℕ). digit (eqb x 1) + 65536 * digit (eqb x 2)) ev,
            );
          }
