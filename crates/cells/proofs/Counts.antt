-- Stones counted: one cell changed moves a count by what stood there and what stands there now, a view keeps both counts, and black, white
-- and empty points together are 225. Assumes nothing.
use mathlib.Core.Path.{◌≡◌, refl, ap, sym, ◌∙◌}
use mathlib.Core.Bool.{Bool, true, false, cond}
use mathlib.Core.List.{List, [], ◌∷◌}
use Prim.Native.Nat.{ℕ, zero, suc, ◌+◌, ◌≤◌, ◌<◌}
use native.Mathlib.Numerals.{add-one}
use native.Mathlib.Omega.{arith}
use lib.Dec.{eqb}
use lib.ListN.{length, get_or, set}
use borrow.Author.Tests.{eq-eqb, ne_eqb}
use Rattle.rules.specs.Numbers.{colour_no}
use Rattle.rules.specs.Bit.{digit, count_of}
use Rattle.rules.specs.Grid.{is_empty, empties}
use Rattle.rules.specs.Views.{turn, undo, turn_cells}
use Rattle.rules.specs.declared.Player.{Player}
use Rattle.rules.specs.declared.Player.TheVariants.{Black, White}
use Rattle.rules.proofs.Bits.{count-cong, count-le}
use Rattle.rules.proofs.Changes.{set_at}
use Rattle.rules.proofs.Turns.{undo-lt, turn-lt, turn-undo}
use Rattle.rules.proofs.Eight.{Turned, turned-back}
use Rattle.rules.proofs.Views.{turned-cells}
use Rattle.cells.specs.Counts.{stones_count}

-- ---- counts of a test over numbers

pub digit-le : (b : Bool) → digit b ≤ 1
digit-le true = omega arith
digit-le false = omega arith

-- one number more; two ranges, one after the other
pub count-more : (w : ℕ) (f : ℕ → Bool) → count_of (suc w) f ≡ count_of w f + digit (f w)
unfolding count_of
count-more zero f = omega arith
count-more (suc w) f = omega (arith, count-more w (λ j. f (suc j)))

pub count-step : (w : ℕ) (f : ℕ → Bool) → count_of w f + digit (f w) ≡ count_of (w + 1) f
count-step w f = sym (ap (λ (n : ℕ). count_of n f) (add-one w) ∙ count-more w f)

pub count-both : (a b : ℕ) (f : ℕ → Bool) → count_of (a + b) f ≡ count_of a f + count_of b (λ j. f (a + j))
count-both a zero f =
    let none = count-le 0 (λ j. f (a + j)) in
    ap (λ (n : ℕ). count_of n f) (let z : a + 0 ≡ a = omega arith in z) ∙ (omega arith)
count-both a (suc b) f =
    let one = count-more (a + b) f in
    let rest = count-both a b f in
    let last = count-more b (λ j. f (a + j)) in
    ap (λ (n : ℕ). count_of n f) (let z : a + suc b ≡ suc (a + b) = omega arith in z) ∙ (omega arith)

-- two tests that differ at one number alone
pub count-changed : (n p : ℕ) (f g : ℕ → Bool) → p < n → ((j : ℕ) → j < n → (j ≡ p → ⊥) → f j ≡ g j)
    → count_of n g + digit (f p) ≡ count_of n f + digit (g p)
unfolding count_of
count-changed zero p f g h e = absurd (omega arith)
count-changed (suc n) zero f g h e =
    let rest : count_of n (λ j. f (suc j)) ≡ count_of n (λ j. g (suc j)) =
    count-cong n (λ j. f (suc j)) (λ j. g (suc j)) (λ j k. e (suc j) (omega arith) (λ q. omega arith)) in
    omega arith
count-changed (suc n) (suc p) f g h e =
    let here : digit (f 0) ≡ digit (g 0) = ap digit (e 0 (omega arith) (λ q. omega arith)) in
    let rest = count-changed n p (λ j. f (suc j)) (λ j. g (suc j)) (omega arith) (λ j k d. e (suc j) (omega arith) (λ q. d (omega arith))) in
    omega arith

-- a test of numbers that are sent to different ones passes no more often
count-sent : (m n : ℕ) (s : ℕ → ℕ) (f : ℕ → Bool) → ((i : ℕ) → i < m → s i < n)
    → ((i j : ℕ) → i < m → j < m → s i ≡ s j → i ≡ j) → count_of m (λ i. f (s i)) ≤ count_of n f
count-sent zero n s f below one = omega (arith, count-le 0 (λ i. f (s i)))
count-sent (suc m) n s f below one =
    let more = count-more m (λ i. f (s i)) in
    let same = count-cong m (λ i. f (s i)) (λ i. off (s i)) (λ i k. elsewhere (s i) (λ q. absurd (apart i k q))) in
    let fewer = count-sent m n s off (λ i k. below i (omega arith)) (λ i j k l q. one i j (omega arith) (omega arith) q) in
    let changed = count-changed n (s m) f off (below m (omega arith)) (λ j k d. elsewhere j d) in
    let last : digit (off (s m)) ≡ 0 = rw (eq-eqb (s m) (s m) refl) in
    omega arith
  where
    -- the test without the last of them
    off : ℕ → Bool
    off k = cond (eqb k (s m)) false (f k)

    elsewhere : (k : ℕ) → (k ≡ s m → ⊥) → f k ≡ off k
    elsewhere k d = rw (ne_eqb k (s m) d)

    apart : (i : ℕ) → i < m → s i ≡ s m → ⊥
    apart i k q = let z = one i m (omega arith) (omega arith) q in omega arith

-- of three tests one passes at each number
count-three : (n : ℕ) (f g h : ℕ → Bool) → ((j : ℕ) → digit (f j) + digit (g j) + digit (h j) ≡ 1)
    → count_of n f + count_of n g + count_of n h ≡ n
unfolding count_of
count-three zero f g h e = refl
count-three (suc n) f g h e =
    let here = e 0 in
    let rest = count-three n (λ j. f (suc j)) (λ j. g (suc j)) (λ j. h (suc j)) (λ j. e (suc j)) in
    omega arith

-- ---- stones

pub stones-le : (r : Player) (cells : List ℕ) → stones_count r cells ≤ 225
unfolding stones_count
stones-le r cells = count-le 225 (λ p. eqb (get_or cells p 0) (colour_no r))

-- one cell changed: "Overwriting a colour moves one from one count to the other; putting the same colour again or removing from an empty
-- point changes none."
pub stones-set : (r : Player) (cells : List ℕ) (p v : ℕ) → length cells ≡ 225 → p < 225
    → stones_count r (set cells p v) + digit (eqb (get_or cells p 0) (colour_no r)) ≡ stones_count r cells + digit (eqb v (colour_no r))
unfolding stones_count
stones-set r cells p v long hp =
    count-changed 225 p (holds cells) (holds (set cells p v)) hp (λ j k d. ap test (sym (set_at cells p v j (omega arith) ∙ rw (ne_eqb j p d))))
    ∙ ap (λ (x : ℕ). count_of 225 (holds cells) + digit (test x)) (set_at cells p v p (omega arith) ∙ rw (eq-eqb p p refl))
  where
    test : ℕ → Bool
    test x = eqb x (colour_no r)

    holds : List ℕ → ℕ → Bool
    holds l q = test (get_or l q 0)

-- "Views keep both counts."
turned_le : (r : Player) {v : ℕ} {A B : List ℕ} → v < 8 → Turned v A B → stones_count r A ≤ stones_count r B
unfolding stones_count
turned_le r {v} {A} {B} hv t =
    let same = count-cong 225 (holds A) (λ p. holds B (turn v p)) (λ p hp. ap (λ (x : ℕ). eqb x (colour_no r)) (sym (t.same p hp))) in
    let sent = count-sent 225 225 (turn v) (holds B) (λ p hp. turn-lt v p hv hp)
    (λ p q hp hq e. sym (turn-undo v p hv hp) ∙ ap (turn (undo v)) e ∙ turn-undo v q hv hq) in
    omega arith
  where
    holds : List ℕ → ℕ → Bool
    holds l p = eqb (get_or l p 0) (colour_no r)

pub stones-turned : (r : Player) (v : ℕ) (cells : List ℕ) → v < 8 → length cells ≡ 225
    → stones_count r (turn_cells v cells) ≡ stones_count r cells
stones-turned r v cells hv long =
    let t = turned-cells v cells hv long in
    let there = turned_le r hv t in
    let back = turned_le r (undo-lt v hv) (turned-back hv t) in
    omega arith

-- "Black, white and empty points together make 225."
empties-count : (cells : List ℕ) → empties cells ≡ count_of (length cells) (λ p. is_empty (get_or cells p 0))
unfolding empties count_of
empties-count [] = refl
empties-count (v ∷ cells) = at (is_empty v) (empties-count cells)
  where
    at : (b : Bool) {n m : ℕ} → n ≡ m → cond b (suc n) n ≡ digit b + m
    at true e = omega arith
    at false e = omega arith

pub counts_all : (cells : List ℕ) → length cells ≡ 225 → stones_count Black cells + stones_count White cells + empties cells ≡ 225
unfolding stones_count
counts_all cells long =
    ap (λ (n : ℕ). stones_count Black cells + stones_count White cells + n)
    (empties-count cells ∙ ap (λ (n : ℕ). count_of n (λ p. is_empty (get_or cells p 0))) long)
    ∙ count-three 225 (λ p. eqb (get_or cells p 0) 1) (λ p. eqb (get_or cells p 0) 2) (λ p. is_empty (get_or cells p 0))
    (λ p. one (get_or cells p 0))
  where
    one : (v : ℕ) → digit (eqb v 1) + digit (eqb v 2) + digit (is_empty v) ≡ 1
    one zero = refl
    one (suc zero) = refl
    one (suc (suc zero)) = refl
    one (suc (suc (suc v))) = rw (ne_eqb (suc (suc (suc v))) 1 (λ q. omega arith), ne_eqb (suc (suc (suc v))) 2 (λ q. omega arith))
