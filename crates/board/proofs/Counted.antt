-- Stones counted on lines and moved by one point that changes: these are the points with that colour. Assumes nothing.
use mathlib.Core.Path.{◌≡◌, ap, ap₂, sym, ◌∙◌}
use mathlib.Core.Bool.{Bool, true, false}
use mathlib.Core.List.{List}
use Prim.Native.Nat.{ℕ, ◌+◌, ◌*◌, ◌%◌, ◌≤◌, ◌<◌}
use native.Mathlib.Omega.{arith}
use lib.Count.{ones}
use borrow.Author.Tests.{lt-ltb}
use Rattle.rules.specs.Bit.{bit, digit, count_of}
use Rattle.rules.specs.Point.{x_of, y_of}
use Rattle.rules.specs.declared.Player.{Player}
use Rattle.rules.proofs.Bits.{count-cong, count-le, count_ones, bit-mod}
use Rattle.cells.specs.Counts.{stones_count}
use Rattle.cells.proofs.Counts.{count-both}
use Rattle.grid.specs.Lines.{mask_on, shows, cells_of, lines_of, Sound}
use Rattle.grid.proofs.Lines.{column-lines_of, sound-lines}
use Rattle.board.specs.Boards.{stones_shown, moved_count}

-- ---- a column by its mask, and the columns one after the other

pub column-ones : (m : ℕ) → ones (m % 32768) ≡ count_of 15 (bit m)
column-ones m = count_ones 15 (m % 32768) (omega arith) ∙ count-cong 15 (bit (m % 32768)) (bit m) (λ j k. bit-mod m 15 j k)

abbrev pub shown_at : Player → List ℕ → ℕ → Bool
shown_at r l p = shows r l (x_of p) (y_of p)

pub shown-few : (r : Player) (l : List ℕ) (x : ℕ) {n : ℕ} → n ≡ count_of (15 * x) (shown_at r l) → n ≤ 15 * x
shown-few r l x e = omega (arith, e, count-le (15 * x) (shown_at r l))

pub shown-step : (r : Player) (l : List ℕ) (x : ℕ) {n k : ℕ} → n ≡ count_of (15 * x) (shown_at r l) → k ≡ count_of 15 (bit (mask_on r l x))
    → n + k ≡ count_of (15 * (x + 1)) (shown_at r l)
shown-step r l x en ek =
    ap₂ (λ (a b : ℕ). a + b) en (ek ∙ count-cong 15 (bit (mask_on r l x)) (λ y. shown_at r l (15 * x + y)) (λ y h. here y h))
    ∙ sym (ap (λ (n : ℕ). count_of n (shown_at r l)) (let z : 15 * (x + 1) ≡ 15 * x + 15 = omega arith in z) ∙ count-both (15 * x) 15 (shown_at r l))
  where
    here : (y : ℕ) → y < 15 → bit (mask_on r l x) y ≡ shown_at r l (15 * x + y)
    here y h =
        let ex : x ≡ x_of (15 * x + y) = omega arith in
        let ey : y ≡ y_of (15 * x + y) = omega arith in
        ap₂ (shows r l) ex ey

-- ---- on the lines of cells, and on sound lines, the stones shown are the points with that colour

pub shown-cells : (r : Player) (cells : List ℕ) → stones_shown r (lines_of cells) ≡ stones_count r cells
unfolding stones_shown stones_count
shown-cells r cells = count-cong 225 _ _ (λ p hp. column-lines_of r cells p hp)

pub stones-shown : (r : Player) (l : List ℕ) → Sound l → stones_shown r l ≡ stones_count r (cells_of l)
stones-shown r l s = ap (stones_shown r) (sound-lines l s) ∙ shown-cells r (cells_of l)

-- ---- a count that is moved

pub moved-count : (n m : ℕ) (off on : Bool) → m + digit off ≡ n + digit on → n ≤ 225 → moved_count n off on ≡ m
unfolding moved_count
moved-count n m true true e h = omega arith
moved-count n m true false e h = omega arith
moved-count n m false true e h = rw (lt-ltb n 255 (omega arith)) (omega arith)
moved-count n m false false e h = omega arith
