-- Document 02, No. 14: how deep a strict question goes. The quoted sentences are document 02's where no other is named.
use Rattle.std.specs.Prelude.{Bool, not, ◌&&◌, cond, List, ℕ, zero, suc, leb, get_or}
use Rattle.rules.specs.Point.{line_no, point_at}
use Rattle.rules.specs.Grid.{is_empty, rows_through, eye_on}
use Rattle.rules.specs.Forbidden.{Ask, with_black, completes_five, is_overline, is_double_four, more_twos, nested_of}
use Rattle.rules.specs.declared.Player.TheVariants.{Black}
use Rattle.rules.specs.declared.RowKind.TheVariants.{Three}

-- ---- the greatest of some numbers

unfoldable pub larger : ℕ → ℕ → ℕ
larger a b = cond (leb a b) b a

-- the greatest of f 0, f 1, .. f (n - 1); 0 where there is none
unfoldable pub greatest : ℕ → (ℕ → ℕ) → ℕ
greatest zero f = 0
greatest (suc n) f = larger (f n) (greatest n f)

-- the number where the test passes, else 0
abbrev pub counts : Bool → ℕ → ℕ
counts b n = cond b n 0

-- ---- the depth; `ask` is the depth of a nested question

-- Does the strict question at an empty p ask a nested one? Document 01: the strict verdict is none "where a black Four goes through p",
-- "Nothing is asked after the first kind that applies", and a DoubleThree needs "more than one Two through p" before any Three is asked about.
unfoldable pub asks_nested : List ℕ → ℕ → Bool
asks_nested cells p = not (completes_five cells p) && not (is_overline cells p) && not (is_double_four cells p) && more_twos cells p

-- "an eye that completes a five counts 1"
unfoldable pub eye_depth : Ask ℕ → List ℕ → ℕ → ℕ
eye_depth ask cells e = cond (completes_five cells e) 1 (ask cells e)

-- "the .. question at the eye" of the Three at start j of the line through p; it has one eye (proofs/Eye.antt)
unfoldable pub three_depth : Ask ℕ → List ℕ → ℕ → ℕ → ℕ → ℕ
three_depth ask cells p d j =
    greatest 16 (λ e. counts (eye_on Black Three cells d (line_no d p) j e) (eye_depth ask cells (point_at d (line_no d p) e)))

-- "the deepest question at the eye of any Three through the point on the board with the stone, also those after the answer is known": of
-- all Threes through p, on the four lines
unfoldable pub deepest : Ask ℕ → List ℕ → ℕ → ℕ
deepest ask cells p = greatest 4 (λ d. greatest 16 (λ j. counts (rows_through Black Three cells p d j) (three_depth ask cells p d j)))

-- "0 at an occupied point; 1 where nothing nested is asked; else one more than the deepest question .."
unfoldable pub depth_with : Ask ℕ → Ask ℕ
depth_with ask cells p = cond (is_empty (get_or cells p 0)) (cond (asks_nested cells p) (suc (deepest ask (with_black cells p) p)) 1) 0

-- "A strict question also reports its depth". As of the verdict, as many steps as there are empty points are enough (proofs/Depth.antt,
-- depth-step and depth-most).
unfoldable pub depth_of : Ask ℕ
depth_of cells p = nested_of 0 depth_with cells p
