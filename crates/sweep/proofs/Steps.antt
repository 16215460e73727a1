-- The k-th point after a point on its line, and before it: where its mark is. Assumes nothing.
use mathlib.Core.Path.{◌≡◌, refl, sym, ap, ap₂, ◌∙◌}
use mathlib.Core.Bool.{Bool, true, false, ◌&&◌, beq, and_assoc}
use mathlib.Core.List.{List}
use Prim.Native.Nat.{ℕ, zero, suc, ◌+◌, ◌-◌, ◌*◌, ◌/◌, ◌%◌, ◌^◌, ◌≤◌, ◌<◌}
use native.Mathlib.Omega.{arith}
use lib.Dec.{T, eqb, leb, ltb, eqb→eq}
use lib.ListN.{get_or}
use Rattle.rules.specs.Tools.{all_below}
use Rattle.rules.specs.Bit.{bit}
use Rattle.rules.specs.Point.{code_of, by_direction, line_no, cell_no, line_size, point_at}
use Rattle.rules.proofs.Bits.{bit-shr, bit-shl-in}
use Rattle.rules.proofs.Logic.{all2, implies, implied}
use Rattle.sweep.specs.Marks.{on_board, marks, is_marked, Marked, Says, along_line, ahead_of, back_of}
use Rattle.sweep.proofs.Marks.{on-elim, marks-bit}

-- how far a step of k cells moves a column: not at all on a vertical line
abbrev pub columns : ℕ → ℕ → ℕ
columns d k = by_direction d 0 k k k

-- the mask that a step of k cells from mask i leads to, on and back
abbrev row_ahead : ℕ → ℕ → ℕ → ℕ
row_ahead d i k = by_direction d (i + k) i (i + k) (i - k)

abbrev row_back : ℕ → ℕ → ℕ → ℕ
row_back d i k = by_direction d (i - k) i (i - k) (i + k)

row_lt : (d i k : ℕ) → i < 21 → k < 6 → (row_ahead d i k < 26) × (row_back d i k < 26)
row_lt zero i k hi hk = omega arith
row_lt (suc zero) i k hi hk = omega arith
row_lt (suc (suc zero)) i k hi hk = omega arith
row_lt (suc (suc (suc d))) i k hi hk = omega arith

-- two tests are one, and where they pass two codes are
abbrev agree : Bool → Bool → ℕ → ℕ → Bool
agree a b q r = beq a b && implies a (eqb q r)

agreed : (f : ℕ → Bool) (a b : Bool) (q r : ℕ) → T (agree a b q r) → (a && f q) ≡ (b && f r)
agreed f true true q r t = ap f (eqb→eq q r t)
agreed f true false q r t = absurd t
agreed f false true q r t = absurd t
agreed f false false q r t = refl

-- a test computed at every point, in every direction, up to five cells
everywhere : (ℕ → ℕ → ℕ → ℕ → Bool) → Bool
everywhere f = all_below 4 (λ d. all_below 6 (λ k. all_below 20 (λ i. all_below 15 (λ x. implies (on_board i x) (f d k i x)))))

at-point : (f : ℕ → ℕ → ℕ → ℕ → Bool) → T (everywhere f) → (d k i x : ℕ) → d < 4 → k < 6 → T (on_board i x) → T (f d k i x)
unfolding everywhere
at-point f t d k i x hd hk b =
    let o = on-elim i x b in
    implied (on_board i x) (f d k i x)
    (all2 20 15 (λ i x. implies (on_board i x) (f d k i x))
    (all2 4 6 (λ d k. all_below 20 (λ i. all_below 15 (λ x. implies (on_board i x) (f d k i x)))) t d k hd hk) i x o.high o.column) b

-- the step on: whether it stays on the board, and on the line; the point it leads to, by its mask and by its line
ahead_on : ℕ → ℕ → ℕ → ℕ → Bool
ahead_on d k i x = on_board (row_ahead d i k) (x + columns d k)

ahead_in : ℕ → ℕ → ℕ → Bool
ahead_in d k p = ltb (cell_no d p + k) (line_size d (line_no d p))

ahead_test : ℕ → ℕ → ℕ → ℕ → Bool
ahead_test d k i x =
    agree (ahead_on d k i x) (ahead_in d k (code_of x (i - 5))) (code_of (x + columns d k) (row_ahead d i k - 5))
    (point_at d (line_no d (code_of x (i - 5))) (cell_no d (code_of x (i - 5)) + k))

ahead-test : (d k i x : ℕ) → d < 4 → k < 6 → T (on_board i x) → T (ahead_test d k i x)
unfolding ahead_test ahead_on ahead_in everywhere all_below on_board line_no cell_no line_size point_at
ahead-test d k i x hd hk b = at-point ahead_test tt d k i x hd hk b

-- the step back
back_on : ℕ → ℕ → ℕ → ℕ → Bool
back_on d k i x = leb (columns d k) x && on_board (row_back d i k) (x - columns d k)

back_in : ℕ → ℕ → ℕ → Bool
back_in d k p = leb k (cell_no d p) && ltb (cell_no d p - k) (line_size d (line_no d p))

back_test : ℕ → ℕ → ℕ → ℕ → Bool
back_test d k i x =
    agree (back_on d k i x) (back_in d k (code_of x (i - 5))) (code_of (x - columns d k) (row_back d i k - 5))
    (point_at d (line_no d (code_of x (i - 5))) (cell_no d (code_of x (i - 5)) - k))

back-test : (d k i x : ℕ) → d < 4 → k < 6 → T (on_board i x) → T (back_test d k i x)
unfolding back_test back_on back_in everywhere all_below on_board line_no cell_no line_size point_at
back-test d k i x hd hk b = at-point back_test tt d k i x hd hk b

-- THE LAWS: a bit of the marks is the point so many cells on, and back, along the line
module _ (f : ℕ → Bool) (d k i x : ℕ) (hd : d < 4) (hk : k < 6) (hi : i < 21) (b : T (on_board i x)) where
  pub ahead-mark : bit (get_or (marks f) (row_ahead d i k) 0) (x + columns d k) ≡ ahead_of f d k (code_of x (i - 5))
  unfolding ahead_of along_line ahead_test ahead_on ahead_in
  ahead-mark =
      marks-bit f (row_ahead d i k) (x + columns d k) (row_lt d i k hi hk).0
      ∙ agreed f (ahead_on d k i x) (ahead_in d k (code_of x (i - 5))) (code_of (x + columns d k) (row_ahead d i k - 5))
      (point_at d (line_no d (code_of x (i - 5))) (cell_no d (code_of x (i - 5)) + k)) (ahead-test d k i x hd hk b)

  pub back-mark : (leb (columns d k) x && bit (get_or (marks f) (row_back d i k) 0) (x - columns d k)) ≡ back_of f d k (code_of x (i - 5))
  unfolding back_of along_line back_test back_on back_in
  back-mark =
      ap (λ (a : Bool). leb (columns d k) x && a) (marks-bit f (row_back d i k) (x - columns d k) (row_lt d i k hi hk).1)
      ∙ sym (and_assoc (leb (columns d k) x) (on_board (row_back d i k) (x - columns d k))
      (f (code_of (x - columns d k) (row_back d i k - 5))))
      ∙ agreed f (back_on d k i x) (back_in d k p) (code_of (x - columns d k) (row_back d i k - 5)) (point_at d (line_no d p) (cell_no d p - k))
      (back-test d k i x hd hk b)
      ∙ and_assoc (leb k (cell_no d p)) (ltb (cell_no d p - k) (line_size d (line_no d p))) (f (point_at d (line_no d p) (cell_no d p - k)))
    where
      p : ℕ
      p = code_of x (i - 5)

-- ---- the steps as the code takes them

pub up_none : (d k : ℕ) → (d ≡ 0 → ⊥) → (d ≡ 2 → ⊥) → 0 ≡ by_direction d k 0 k 0
up_none zero k a b = absurd (a refl)
up_none (suc zero) k a b = refl
up_none (suc (suc zero)) k a b = absurd (b refl)
up_none (suc (suc (suc d))) k a b = refl

pub down-none : (d k : ℕ) → d < 3 → 0 ≡ by_direction d 0 0 0 k
down-none zero k h = refl
down-none (suc zero) k h = refl
down-none (suc (suc zero)) k h = refl
down-none (suc (suc (suc d))) k h = absurd (omega arith)

pub down-some : (d k : ℕ) → 3 ≤ d → k ≡ by_direction d 0 0 0 k
down-some zero k h = absurd (omega arith)
down-some (suc zero) k h = absurd (omega arith)
down-some (suc (suc zero)) k h = absurd (omega arith)
down-some (suc (suc (suc d))) k h = refl

pub aside-some : (d k : ℕ) → (d ≡ 0 → ⊥) → k ≡ columns d k
aside-some zero k a = absurd (a refl)
aside-some (suc zero) k a = refl
aside-some (suc (suc zero)) k a = refl
aside-some (suc (suc (suc d))) k a = refl

-- no further than k
pub record Near (k u v s : ℕ) : Type 0 where
  pub up : u ≤ k
  pub down : v ≤ k
  pub aside : s ≤ k

pub near : (d k : ℕ) → Near k (by_direction d k 0 k 0) (by_direction d 0 0 0 k) (columns d k)
near zero k = omega arith
near (suc zero) k = omega arith
near (suc (suc zero)) k = omega arith
near (suc (suc (suc d))) k = omega arith

to_row : (d i k : ℕ) → i + by_direction d k 0 k 0 - by_direction d 0 0 0 k ≡ row_ahead d i k
to_row zero i k = omega arith
to_row (suc zero) i k = omega arith
to_row (suc (suc zero)) i k = omega arith
to_row (suc (suc (suc d))) i k = omega arith

from_row : (d i k : ℕ) → i + by_direction d 0 0 0 k - by_direction d k 0 k 0 ≡ row_back d i k
from_row zero i k = omega arith
from_row (suc zero) i k = omega arith
from_row (suc (suc zero)) i k = omega arith
from_row (suc (suc (suc d))) i k = omega arith

-- .. and the masks that they lead to
module _ (m : List ℕ) (w : Marked m) (d k i : ℕ) (hd : d < 4) (hk : k < 6) (hi : i < 21) where
  pub says-ahead : Says (get_or m (i + by_direction d k 0 k 0 - by_direction d 0 0 0 k) 0 / 2 ^ columns d k) i (ahead_of (is_marked m) d k)
  says-ahead =
      record {
        at = λ x b. bit-shr (get_or m (i + by_direction d k 0 k 0 - by_direction d 0 0 0 k) 0) (columns d k) x
            ∙ ap₂ (λ (r : ℕ) (l : List ℕ). bit (get_or l r 0) (x + columns d k)) (to_row d i k) w.whole
            ∙ ahead-mark (is_marked m) d k i x hd hk hi b;
      }

  pub says_back : Says ((get_or m (i + by_direction d 0 0 0 k - by_direction d k 0 k 0) 0 * 2 ^ columns d k) % 2 ^ 16) i
      (back_of (is_marked m) d k)
  says_back =
      record {
        at = λ x b.
            bit-shl-in (get_or m (i + by_direction d 0 0 0 k - by_direction d k 0 k 0) 0) (columns d k) 16 x
            (let o = on-elim i x b in omega (arith, o.column))
            ∙ ap₂ (λ (r : ℕ) (l : List ℕ). leb (columns d k) x && bit (get_or l r 0) (x - columns d k)) (from_row d i k) w.whole
            ∙ back-mark (is_marked m) d k i x hd hk hi b;
      }
