-- A Three has exactly one eye; "real" asks there. Assumes nothing.
use mathlib.Core.Path.{◌≡◌, sym, subst, ap, ◌∙◌}
use mathlib.Core.Bool.{Bool, not, ◌&&◌, cond}
use mathlib.Core.List.{List}
use Prim.Native.Nat.{ℕ, ◌+◌, ◌-◌, ◌≤◌, ◌<◌}
use native.Mathlib.Omega.{arith}
use borrow.Author.Tests.{eq-eqb}
use lib.Dec.{T, leb, ltb, eqb, eqb→eq, leb→le, ltb→lt, le→leb, lt→ltb}
use Rattle.rules.specs.Numbers.{is_black, opponent_of}
use Rattle.rules.specs.Tools.{any_below, all_below}
use Rattle.rules.specs.Bit.{digit}
use Rattle.rules.specs.Line.{Stones, count, scores, pair_at, no_stone, open_at, row_at, among, empty_at, is_eye}
use Rattle.rules.specs.Point.{line_no, line_size, point_at}
use Rattle.rules.specs.Grid.{stone_at, row_on, eye_on}
use Rattle.rules.specs.Forbidden.{Ask, good_eye, is_real}
use Rattle.rules.specs.declared.Player.TheVariants.{Black}
use Rattle.rules.specs.declared.RowKind.TheVariants.{Three}
use Rattle.rules.specs.declared.Verdict.{Verdict}
use Rattle.rules.proofs.Logic.{and_left, and_right, and_intro, implies, implied, both_ways, any-elim, any-intro, all-elim, all2}
use Rattle.rules.proofs.Logic.{true-T}
use Rattle.rules.proofs.Tables.{at5}
use Rattle.rules.proofs.Windows.{Window, scored, five, five-at, free-at, pair-elim}

-- ---- three own stones on a window whose last cell has none leave one gap before it

abbrev gapped : Bool → Bool → Bool → Bool → Bool → Bool
gapped a b c d e = eqb (digit a + digit b + digit c + digit d + digit e) 3 && not e

abbrev two_gaps : Bool → Bool → Bool → Bool → Bool → ℕ → ℕ → Bool
two_gaps a b c d e k m = gapped a b c d e && not (five a b c d e k) && not (five a b c d e m)

one-gap : (a b c d e : Bool) (k m : ℕ) → k < 4 → m < 4 → T (two_gaps a b c d e k m) → k ≡ m
unfolding all_below
one-gap a b c d e k m hk hm t =
    eqb→eq k m
    (implied (two_gaps a b c d e k m) (eqb k m)
    (all2 4 4 (λ k m. implies (two_gaps a b c d e k m) (eqb k m))
    (at5 (λ a b c d e. all_below 4 (λ k. all_below 4 (λ m. implies (two_gaps a b c d e k m) (eqb k m)))) tt a b c d e) k m hk hm) t)

some-gap : (a b c d e : Bool) → T (gapped a b c d e) → (k : ℕ) × (k < 4) × T (not (five a b c d e k))
unfolding any_below
some-gap a b c d e t =
    any-elim 4 (λ k. not (five a b c d e k))
    (implied (gapped a b c d e) (any_below 4 (λ k. not (five a b c d e k)))
    (at5 (λ a b c d e. implies (gapped a b c d e) (any_below 4 (λ k. not (five a b c d e k)))) tt a b c d e) t)

-- the gap is the first of them
abbrev pub first_gap : Bool → Bool → Bool → ℕ
first_gap a b c = cond a (cond b (cond c 3 2) 1) 0

first-gap : (a b c d e : Bool) (k : ℕ) → k < 4 → T (gapped a b c d e) → T (not (five a b c d e k)) → k ≡ first_gap a b c
unfolding all_below
first-gap a b c d e k hk s t =
    let test : Bool → Bool → Bool → Bool → Bool → ℕ → Bool = λ a b c d e k.
    implies (gapped a b c d e && not (five a b c d e k)) (eqb k (first_gap a b c)) in
    eqb→eq k (first_gap a b c)
    (implied (gapped a b c d e && not (five a b c d e k)) (eqb k (first_gap a b c))
    (all-elim 4 (test a b c d e) (at5 (λ a b c d e. all_below 4 (test a b c d e)) tt a b c d e) k hk)
    (and_intro (gapped a b c d e) (not (five a b c d e k)) s t))

-- ---- the eye of a Three at j, on one line

module _ (black : Bool) (size : ℕ) (own other : Stones) (j : ℕ) (t : T (row_at black size own other Three j)) where
  window : Window size own other 3 j
  unfolding row_at open_at
  window =
      scored black size own other 3 j
      (pair-elim (scores black size own other 3) j (and_left (pair_at (scores black size own other 3) j)
      (no_stone own other (j + 4)) t)).second

  stones : T (gapped (own j) (own (j + 1)) (own (j + 2)) (own (j + 3)) (own (j + 4)))
  unfolding row_at open_at no_stone count
  stones =
      and_intro (eqb (count own j) 3) (not (own (j + 4))) (true-T (eq-eqb (count own j) 3 window.stones))
      (and_left (not (own (j + 4))) (not (other (j + 4)))
      (and_right (pair_at (scores black size own other 3) j) (not (own (j + 4)) && not (other (j + 4))) t))

  pub eye-some : (e : ℕ) × (e < size) × T (is_eye size own other Three j e)
  unfolding is_eye empty_at no_stone among
  eye-some =
      let g = some-gap (own j) (own (j + 1)) (own (j + 2)) (own (j + 3)) (own (j + 4)) stones in
      let k = g.0 in
      let hk : k < 4 = g.1 in
      let f = window.fits in
      let l : j + k < size = omega arith in (
        j + k,
        l,
        and_intro (leb j (j + k) && ltb (j + k) (j + 4)) (ltb (j + k) size && (not (own (j + k)) && not (other (j + k))))
            (and_intro (leb j (j + k)) (ltb (j + k) (j + 4)) (le→leb j (j + k) (omega arith)) (lt→ltb (j + k) (j + 4) (omega arith)))
            (and_intro (ltb (j + k) size) (not (own (j + k)) && not (other (j + k))) (lt→ltb (j + k) size l)
            (and_intro (not (own (j + k))) (not (other (j + k))) (subst (λ (b : Bool). T (not b)) (five-at own j k (omega arith)) g.2)
            (free-at other j k (omega arith) window.is_free))),
      )

  -- the gap that an eye is
  gap : (e : ℕ) → T (is_eye size own other Three j e)
      → (k : ℕ) × (k < 4) × (e ≡ j + k) × T (not (five (own j) (own (j + 1)) (own (j + 2)) (own (j + 3)) (own (j + 4)) k))
  unfolding is_eye empty_at no_stone among
  gap e u =
      let a = and_left (leb j e && ltb e (j + 4)) (ltb e size && (not (own e) && not (other e))) u in
      let z = and_right (ltb e size) (not (own e) && not (other e))
      (and_right (leb j e && ltb e (j + 4)) (ltb e size && (not (own e) && not (other e))) u) in
      let l : j ≤ e = leb→le j e (and_left (leb j e) (ltb e (j + 4)) a) in
      let h : e < j + 4 = ltb→lt e (j + 4) (and_right (leb j e) (ltb e (j + 4)) a) in
      let k = e - j in
      let hk : e - j < 4 = omega arith in
      let q : e ≡ j + (e - j) = omega arith in (
        k,
        hk,
        q,
        subst (λ (b : Bool). T (not b)) (ap own q ∙ sym (five-at own j (e - j) (omega arith))) (and_left (not (own e)) (not (other e)) z),
      )

  -- it is the first of the four cells that has no own stone
  pub eye-first : (e : ℕ) → T (is_eye size own other Three j e) → e ≡ j + first_gap (own j) (own (j + 1)) (own (j + 2))
  eye-first e u =
      let g = gap e u in
      g.2 ∙ ap (λ (x : ℕ). j + x) (first-gap (own j) (own (j + 1)) (own (j + 2)) (own (j + 3)) (own (j + 4)) g.0 g.1 stones g.3)

  pub eye-one : (e f : ℕ) → T (is_eye size own other Three j e) → T (is_eye size own other Three j f) → e ≡ f
  eye-one e f u v =
      let a = gap e u in
      let b = gap f v in
      let o : ℕ → Bool = λ k. not (five (own j) (own (j + 1)) (own (j + 2)) (own (j + 3)) (own (j + 4)) k) in
      let s = gapped (own j) (own (j + 1)) (own (j + 2)) (own (j + 3)) (own (j + 4)) in
      let q : a.0 ≡ b.0 =
      one-gap (own j) (own (j + 1)) (own (j + 2)) (own (j + 3)) (own (j + 4)) a.0 b.0 a.1 b.1
      (and_intro (s && o a.0) (o b.0) (and_intro s (o a.0) stones a.3) b.3) in
      a.2 ∙ ap (λ (x : ℕ). j + x) q ∙ sym b.2

-- ---- the question is asked at the eye, wherever it is found

pub real-at : (ask : Ask Verdict) (cells : List ℕ) (p d j e : ℕ) → T (row_on Black Three cells d (line_no d p) j)
    → T (eye_on Black Three cells d (line_no d p) j e) → e < 16
    → is_real ask cells p d j ≡ good_eye ask cells (point_at d (line_no d p) e)
unfolding is_real row_on eye_on
real-at ask cells p d j e t u he =
    let i = line_no d p in
    let o = stone_at Black cells d i in
    let w = stone_at (opponent_of Black) cells d i in
    let at : ℕ → Bool = λ e. is_eye (line_size d i) o w Three j e && good_eye ask cells (point_at d i e) in
    both_ways (is_real ask cells p d j) (good_eye ask cells (point_at d i e))
    (λ x.
    let a = any-elim 16 at x in
    let q : a.0 ≡ e = eye-one (is_black Black) (line_size d i) o w j t a.0 e
    (and_left (is_eye (line_size d i) o w Three j a.0) (good_eye ask cells (point_at d i a.0)) a.2) u in
    subst (λ (x : ℕ). T (good_eye ask cells (point_at d i x))) q
    (and_right (is_eye (line_size d i) o w Three j a.0) (good_eye ask cells (point_at d i a.0)) a.2))
    (λ x. any-intro 16 at e he (and_intro (is_eye (line_size d i) o w Three j e) (good_eye ask cells (point_at d i e)) u x))
