-- The rows through a point, from the marks of the points where rows start. Assumes nothing.
use mathlib.Core.Path.{◌≡◌, sym, ap, ◌∙◌}
use mathlib.Core.Bool.{Bool, true, false, not, ◌&&◌, ◌||◌}
use mathlib.Core.List.{List}
use Prim.Native.Nat.{ℕ, ◌+◌, ◌<◌}
use native.Mathlib.Omega.{arith}
use lib.Dec.{T, eqb, leb, ltb, ltb→lt}
use lib.Bits.{bit_and, bit_or}
use Rattle.rules.specs.Tools.{any_below}
use Rattle.rules.specs.Grid.{Starts}
use Rattle.rules.specs.Point.{line_no, cell_no, line_size, point_at}
use Rattle.rules.specs.Forbidden.{some_start, apart, some_row, on_two_lines, more_than_one}
use Rattle.rules.proofs.Logic.{and_left}
use Rattle.rules.proofs.Tables.{table4, table5}
use Rattle.rules.proofs.Address.{size-le}
use Rattle.rules.proofs.Windows.{five}
use Rattle.rules.proofs.Back.{some_back, apart-back}
use Rattle.sweep.specs.Marks.{is_marked, Says, along_line, marked_line, back_of, cells_if, starts_through, all_through}
use Rattle.sweep.proofs.Marks.{says-as, says-and, says-or}

-- a line has at most 15 cells
line_low : (f : ℕ → Bool) (d i j : ℕ) → T (along_line f d i j) → j < 16
unfolding along_line
line_low f d i j t =
    let h = ltb→lt j (line_size d i) (and_left (ltb j (line_size d i)) (f (point_at d i j)) t) in omega (arith, size-le d i)

-- some row that starts up to four cells back, or three, and two that start two cells or more from each other
some_of : (is_five : Bool) (b : ℕ → Bool) → ((((b 0 || b 1) || b 2) || b 3) || is_five && b 4) ≡ any_below (cells_if is_five) b
unfolding any_below
some_of true b =
    table5 (λ a b c d e. (((a || b) || c) || d) || e) (λ a b c d e. any_below 5 (five a b c d e)) tt (b 0) (b 1) (b 2) (b 3) (b 4)
some_of false b =
    table5 (λ a b c d e. (((a || b) || c) || d) || false) (λ a b c d e. any_below 4 (five a b c d e)) tt (b 0) (b 1) (b 2) (b 3) (b 4)

abbrev two_of : ℕ → (ℕ → Bool) → Bool
two_of n b = any_below n (λ k. b k && any_below n (λ l. leb (k + 2) l && b l))

two-of : (is_five : Bool) (b : ℕ → Bool)
    → (b 0 && ((b 2 || b 3) || is_five && b 4) || b 1 && (b 3 || is_five && b 4) || b 2 && (is_five && b 4)) ≡ two_of (cells_if is_five) b
unfolding any_below
two-of true b =
    table5 (λ a b c d e. a && ((c || d) || e) || b && (d || e) || c && e) (λ a b c d e. two_of 5 (five a b c d e)) tt
    (b 0) (b 1) (b 2) (b 3) (b 4)
two-of false b =
    table5 (λ a b c d e. a && ((c || d) || false) || b && (d || false) || c && false) (λ a b c d e. two_of 4 (five a b c d e)) tt
    (b 0) (b 1) (b 2) (b 3) (b 4)

-- THE LAWS: the code's combinations of rows that start so many cells back are the rows through the point
module _ (is_five : Bool) (f : ℕ → Bool) (d p : ℕ) where
  pub some-met : ((((back_of f d 0 p || back_of f d 1 p) || back_of f d 2 p) || back_of f d 3 p) || is_five && back_of f d 4 p)
      ≡ some_start (starts_through (cells_if is_five) f d p)
  unfolding back_of starts_through
  some-met =
      some_of is_five (λ k. back_of f d k p)
      ∙ sym (some_back (cells_if is_five) (cell_no d p) (marked_line f d p) (λ j t. line_low f d (line_no d p) j t))

  pub apart-met : (back_of f d 0 p && ((back_of f d 2 p || back_of f d 3 p) || is_five && back_of f d 4 p)
      || back_of f d 1 p && (back_of f d 3 p || is_five && back_of f d 4 p) || back_of f d 2 p && (is_five && back_of f d 4 p))
      ≡ apart 16 (starts_through (cells_if is_five) f d p)
  unfolding back_of starts_through
  apart-met =
      two-of is_five (λ k. back_of f d k p)
      ∙ sym (apart-back (cells_if is_five) (cell_no d p) (marked_line f d p) (λ j t. line_low f d (line_no d p) j t))

-- ---- the four directions

some-rows : (s : Starts) → (((some_start (s 0) || some_start (s 1)) || some_start (s 2)) || some_start (s 3)) ≡ some_row s
unfolding some_row any_below
some-rows s =
    table4 (λ v h a d. ((v || h) || a) || d) (λ v h a d. any_below 4 (five v h a d d)) tt
    (some_start (s 0)) (some_start (s 1)) (some_start (s 2)) (some_start (s 3))

abbrev pairs : Bool → Bool → Bool → Bool → Bool
pairs v h a d = v && ((h || a) || d) || h && (a || d) || a && d

two-lines : (s : Starts) → pairs (some_start (s 0)) (some_start (s 1)) (some_start (s 2)) (some_start (s 3)) ≡ on_two_lines s
unfolding on_two_lines any_below
two-lines s =
    table4 pairs (λ v h a d. any_below 4 (λ i. five v h a d d i && any_below 4 (λ j. not (eqb i j) && five v h a d d j))) tt
    (some_start (s 0)) (some_start (s 1)) (some_start (s 2)) (some_start (s 3))

more_rows : (s : Starts)
    → ((((pairs (some_start (s 0)) (some_start (s 1)) (some_start (s 2)) (some_start (s 3))
    || apart 16 (s 0)) || apart 16 (s 1)) || apart 16 (s 2)) || apart 16 (s 3))
    ≡ more_than_one s
unfolding more_than_one any_below
more_rows s =
    ap (λ (t : Bool). (((t || apart 16 (s 0)) || apart 16 (s 1)) || apart 16 (s 2)) || apart 16 (s 3)) (two-lines s)
    ∙ table5 (λ t v h a d. (((t || v) || h) || a) || d) (λ t v h a d. t || any_below 4 (five v h a d d)) tt
    (on_two_lines s) (apart 16 (s 0)) (apart 16 (s 1)) (apart 16 (s 2)) (apart 16 (s 3))

-- .. as the masks that say so
module _ (n : ℕ) (m : ℕ → List ℕ) (i : ℕ) where
  -- a row in a direction, and rows that are apart
  abbrev pub some : ℕ → ℕ → Bool
  some d p = some_start (starts_through n (is_marked (m d)) d p)

  abbrev pub far : ℕ → ℕ → Bool
  far d p = apart 16 (starts_through n (is_marked (m d)) d p)

  module _ {v h a d : ℕ} (sv : Says v i (some 0)) (sh : Says h i (some 1)) (sa : Says a i (some 2)) (sd : Says d i (some 3)) where
    pub says_some : Says (bit_or (bit_or (bit_or v h) a) d) i (λ p. some_row (all_through n m p))
    unfolding all_through
    says_some = says-as _ _ (λ p k. some-rows (all_through n m p)) (says-or (says-or (says-or sv sh) sa) sd)

    pub says-more : {x y z t : ℕ} → Says x i (far 0) → Says y i (far 1) → Says z i (far 2) → Says t i (far 3)
        → Says
        (bit_or (bit_or (bit_or (bit_or
        (bit_or (bit_or (bit_and v (bit_or (bit_or h a) d)) (bit_and h (bit_or a d))) (bit_and a d)) x) y) z) t) i
        (λ p. more_than_one (all_through n m p))
    unfolding all_through
    says-more sx sy sz st =
        says-as _ _ (λ p k. more_rows (all_through n m p))
        (says-or (says-or (says-or (says-or
        (says-or (says-or (says-and sv (says-or (says-or sh sa) sd)) (says-and sh (says-or sa sd))) (says-and sa sd)) sx) sy) sz) st)
