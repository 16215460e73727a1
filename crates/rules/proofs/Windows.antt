-- Windows and rows of one line: what a passed test says. Assumes nothing.
use mathlib.Core.Path.{◌≡◌, refl, sym, subst, ap}
use mathlib.Core.Bool.{Bool, true, false, not, ◌&&◌, ◌||◌, cond, and-false}
use Prim.Native.Nat.{ℕ, zero, suc, ◌+◌, ◌-◌, ◌≤◌, ◌<◌}
use native.Mathlib.Nat.{add-zero}
use native.Mathlib.Omega.{arith}
use lib.Dec.{T, leb, eqb, lit<, eqb→eq, leb→le, le→leb}
use lib.IntN.{pos, negsuc}
use borrow.Author.Tests.{eq-eqb, ne_eqb}
use Rattle.rules.specs.Tools.{all_below}
use Rattle.rules.specs.Line.{Stones, inside, free, count, beside, dead, score, scores, holds, pair_at, no_stone, open_at, over_at}
use Rattle.rules.specs.Line.{span, row_at, row_stones}
use Rattle.rules.specs.declared.RowKind.{RowKind}
use Rattle.rules.specs.declared.RowKind.TheVariants.{Two, Three, Straight, Sword, Four, Five, Overlining, Overlined}
use Rattle.rules.proofs.Logic.{true-T, not-false, and_left, and_right, and_intro, implies, implied, all-elim}
use Rattle.rules.proofs.Tables.{at5}
use Rattle.rules.proofs.Bits.{digit_lt}

-- no row spans more than five cells
pub span-le : (k : RowKind) → span k ≤ 5
span-le Two = omega arith
span-le Three = omega arith
span-le Straight = omega arith
span-le Sword = omega arith
span-le Four = omega arith
span-le Five = omega arith
span-le Overlining = omega arith
span-le Overlined = omega arith

-- no window holds more than five own stones: 6 and 7 match nothing
pub count-le : (own : Stones) (j : ℕ) → count own j ≤ 5
unfolding count
count-le own j =
    omega (arith, digit_lt (own j), digit_lt (own (j + 1)), digit_lt (own (j + 2)), digit_lt (own (j + 3)), digit_lt (own (j + 4)))

pub scores-none : (black : Bool) (size : ℕ) (own other : Stones) (n j : ℕ) → 5 < n → scores black size own other n j ≡ false
unfolding scores
scores-none black size own other n j h =
    rw (ne_eqb (count own j) n (λ e. omega (arith, count-le own j))) (and-false (inside size j && not (dead black own other j)))

pub holds-none : (size : ℕ) (own other : Stones) (n j : ℕ) → 5 < n → holds size own other n j ≡ false
unfolding holds
holds-none size own other n j h = rw (ne_eqb (count own j) n (λ e. omega (arith, count-le own j)))
    (and-false (inside size j && free other j))

-- `scores` says what the score is
pub scores-score : (black : Bool) (size : ℕ) (own other : Stones) (n j : ℕ) → T (scores black size own other n j)
    → score black own other j ≡ pos n
unfolding scores score
scores-score black size own other n j t =
    let l = and_left (inside size j && not (dead black own other j)) (eqb (count own j) n) t in
    let alive : dead black own other j ≡ false = not-false (and_right (inside size j) (not (dead black own other j)) l) in
    rw alive
    (ap pos (eqb→eq (count own j) n (and_right (inside size j && not (dead black own other j)) (eqb (count own j) n) t)))

pub score-scores : (black : Bool) (size : ℕ) (own other : Stones) (n j : ℕ) → T (inside size j) → score black own other j ≡ pos n
    → T (scores black size own other n j)
unfolding scores score
score-scores black size own other n j h e = go (dead black own other j) e
  where
    go : (d : Bool) → cond d (negsuc 0) (pos (count own j)) ≡ pos n → T (inside size j && not d && eqb (count own j) n)
    go true q = let z : ◌≡◌ {A = ℕ} 0 1 = cc in absurd (omega arith)
    go false q =
        and_intro (inside size j && true) (eqb (count own j) n) (and_intro (inside size j) true h tt)
        (true-T (eq-eqb (count own j) n (cc)))

-- the window at j is on the line, free, and holds n own stones
pub record Window (size : ℕ) (own other : Stones) (n j : ℕ) : Type 0 where
  pub fits : j + 5 ≤ size
  pub is_free : T (free other j)
  pub stones : count own j ≡ n

pub scored : (black : Bool) (size : ℕ) (own other : Stones) (k j : ℕ) → T (scores black size own other k j)
    → Window size own other k j
unfolding scores inside dead
scored black size own other k j t =
    let l = and_left (leb (j + 5) size && not (not (free other j) || black && beside own j)) (eqb (count own j) k) t in
    record {
      fits = leb→le (j + 5) size (and_left (leb (j + 5) size) (not (not (free other j) || black && beside own j)) l);
      is_free = live (free other j) (black && beside own j) (and_right (leb (j + 5) size)
          (not (not (free other j) || black && beside own j)) l);
      stones = eqb→eq (count own j) k (and_right (leb (j + 5) size && not (not (free other j) || black && beside own j))
          (eqb (count own j) k) t);
    }
  where
    live : (f d : Bool) → T (not (not f || d)) → T f
    live true d t = tt
    live false d t = t

pub held : (size : ℕ) (own other : Stones) (k j : ℕ) → T (holds size own other k j) → Window size own other k j
unfolding holds inside
held size own other k j t =
    let l = and_left (leb (j + 5) size && free other j) (eqb (count own j) k) t in
    record {
      fits = leb→le (j + 5) size (and_left (leb (j + 5) size) (free other j) l);
      is_free = and_right (leb (j + 5) size) (free other j) l;
      stones = eqb→eq (count own j) k (and_right (leb (j + 5) size && free other j) (eqb (count own j) k) t);
    }

-- cell k of a window's five
abbrev pub five : Bool → Bool → Bool → Bool → Bool → ℕ → Bool
five a b c d e zero = a
five a b c d e (suc zero) = b
five a b c d e (suc (suc zero)) = c
five a b c d e (suc (suc (suc zero))) = d
five a b c d e (suc (suc (suc (suc k)))) = e

pub five-at : (f : Stones) (j k : ℕ) → k < 5 → five (f j) (f (j + 1)) (f (j + 2)) (f (j + 3)) (f (j + 4)) k ≡ f (j + k)
five-at f j zero h = ap f (sym (add-zero j))
five-at f j (suc zero) h = refl
five-at f j (suc (suc zero)) h = refl
five-at f j (suc (suc (suc zero))) h = refl
five-at f j (suc (suc (suc (suc zero)))) h = refl
five-at f j (suc (suc (suc (suc (suc k))))) h = absurd (omega arith)

no_other : (a b c d e : Bool) → T (not a && not b && not c && not d && not e) → (k : ℕ) → k < 5 → T (not (five a b c d e k))
unfolding all_below
no_other a b c d e t k hk =
    implied (not a && not b && not c && not d && not e) (not (five a b c d e k))
    (all-elim 5 (λ k. implies (not a && not b && not c && not d && not e) (not (five a b c d e k)))
    (at5 (λ a b c d e. all_below 5 (λ k. implies (not a && not b && not c && not d && not e) (not (five a b c d e k)))) tt a b c d e) k hk)
    t

-- a free window has no stone of the other colour on any of its cells
pub free-at : (other : Stones) (j k : ℕ) → k < 5 → T (free other j) → T (not (other (j + k)))
unfolding free
free-at other j k hk t =
    subst (λ (b : Bool). T (not b)) (five-at other j k hk)
    (no_other (other j) (other (j + 1)) (other (j + 2)) (other (j + 3)) (other (j + 4)) t k hk)

-- a window that scores has no stone of the other colour on its last cell
pub scores-last : (black : Bool) (size : ℕ) (own other : Stones) (n j : ℕ) → T (scores black size own other n j) → other (j + 4) ≡ false
scores-last black size own other n j t = not-false (free-at other j 4 (lit< tt) (scored black size own other n j t).is_free)

-- windows j−1 and j both pass: j is i + 1
pub record Pair (w : ℕ → Bool) (j : ℕ) : Type 0 where
  pub i : ℕ
  pub next : j ≡ i + 1
  pub first : T (w i)
  pub second : T (w j)

pub pair-elim : (w : ℕ → Bool) (j : ℕ) → T (pair_at w j) → Pair w j
unfolding pair_at
pair-elim w zero t = absurd t
pair-elim w (suc i) t =
    record {
      i = i;
      next = omega arith;
      first = subst (λ (x : ℕ). T (w x)) back (and_right (leb 1 (suc i)) (w (suc i - 1))
          (and_left (leb 1 (suc i) && w (suc i - 1)) (w (suc i)) t));
      second = and_right (leb 1 (suc i) && w (suc i - 1)) (w (suc i)) t;
    }
  where
    back : suc i - 1 ≡ i
    back = omega arith

pub pair-intro : (w : ℕ → Bool) (i j : ℕ) → j ≡ i + 1 → T (w i) → T (w j) → T (pair_at w j)
unfolding pair_at
pair-intro w i j e s t =
    and_intro (leb 1 j && w (j - 1)) (w j)
    (and_intro (leb 1 j) (w (j - 1)) (le→leb 1 j (omega arith)) (subst (λ (x : ℕ). T (w x)) (let q : i ≡ j - 1 = omega arith in q) s)) t

-- a row's later window lies on the line, is free, and holds the kind's stones
pub row-whole : (black : Bool) (size : ℕ) (own other : Stones) (k : RowKind) (j : ℕ) → T (row_at black size own other k j)
    → Window size own other (row_stones k) j
unfolding row_at open_at over_at
row-whole black size own other k j t = at k t
  where
    wide : (n : ℕ) → T (pair_at (scores black size own other n) j && no_stone own other (j + 4)) → Window size own other n j
    wide n u = scored black size own other n j (pair-elim (scores black size own other n) j
        (and_left (pair_at (scores black size own other n) j) (no_stone own other (j + 4)) u)).second

    over : (n : ℕ) → T (pair_at (holds size own other n) j) → Window size own other n j
    over n u = held size own other n j (pair-elim (holds size own other n) j u).second

    at : (k : RowKind) → T (row_at black size own other k j) → Window size own other (row_stones k) j
    at Two u = wide 2 u
    at Three u = wide 3 u
    at Straight u = wide 4 u
    at Sword u = scored black size own other 3 j u
    at Four u = scored black size own other 4 j u
    at Five u = scored black size own other 5 j u
    at Overlining u = over 4 u
    at Overlined u = over 5 u

pub row_inside : (black : Bool) (size : ℕ) (own other : Stones) (k : RowKind) (j : ℕ) → T (row_at black size own other k j) → j + 5 ≤ size
row_inside black size own other k j t = (row-whole black size own other k j t).fits
