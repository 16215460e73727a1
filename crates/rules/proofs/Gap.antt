-- The first cell of a Three's four that has no black stone is its eye, and one look there tells whether it is real. Assumes nothing.
use mathlib.Core.Path.{◌≡◌, refl, ap, ap₂, sym, subst, ◌∙◌}
use mathlib.Core.Bool.{Bool, true, false, not, ◌&&◌, cond}
use mathlib.Core.List.{List}
use Prim.Native.Nat.{ℕ, ◌+◌, ◌<◌}
use native.Mathlib.Nat.{add-zero}
use native.Mathlib.Omega.{arith}
use lib.Dec.{T, ltb}
use lib.ListN.{get_or}
use Rattle.rules.specs.Numbers.{is_black, is_none}
use Rattle.rules.specs.Line.{Stones, no_stone, row_at, among, empty_at, is_eye}
use Rattle.rules.specs.Point.{line_no, line_size, point_at}
use Rattle.rules.specs.Grid.{is_empty, stone_at, row_on, eye_on, rows_through}
use Rattle.rules.specs.Forbidden.{Ask, completes_five, good_eye, is_real, gap_from, eye_of}
use Rattle.rules.specs.declared.Player.TheVariants.{Black, White}
use Rattle.rules.specs.declared.RowKind.TheVariants.{Three}
use Rattle.rules.specs.declared.Verdict.{Verdict}
use Rattle.rules.proofs.Logic.{T_true, along, and_right}
use Rattle.rules.proofs.Address.{size-le, line-here, point-lt}
use Rattle.rules.proofs.Rows.{stone-in, through-row, eye-inside}
use Rattle.rules.proofs.Eye.{first_gap, eye-some, eye-first, eye-one, real-at}

gap_is : (own : Stones) (j : ℕ) → j + first_gap (own j) (own (j + 1)) (own (j + 2)) ≡ gap_from own j
unfolding gap_from
gap_is own j = go (own j) (own (j + 1)) (own (j + 2))
  where
    go : (a b c : Bool) → j + first_gap a b c ≡ cond a (cond b (cond c (j + 3) (j + 2)) (j + 1)) j
    go true true true = refl
    go true true false = refl
    go true false c = refl
    go false b c = add-zero j

gap-eye : (black : Bool) (size : ℕ) (own other : Stones) (j : ℕ) → T (row_at black size own other Three j)
    → T (is_eye size own other Three j (gap_from own j))
gap-eye black size own other j t =
    let s = eye-some black size own other j t in
    subst (λ (e : ℕ). T (is_eye size own other Three j e)) (eye-first black size own other j t s.0 s.2 ∙ gap_is own j) s.2

-- an eye of a Three has no stone
pub eye-open : (cells : List ℕ) (d i j e : ℕ) → T (eye_on Black Three cells d i j e) → is_empty (get_or cells (point_at d i e) 0) ≡ true
unfolding eye_on is_eye empty_at no_stone
eye-open cells d i j e u =
    let own = stone_at Black cells d i in
    let other = stone_at White cells d i in
    let free = not (own e) && not (other e) in
    let inside = eye-inside Black Three cells d i j e u in
    T_true (along
    (ap₂ (λ (a b : Bool). not a && not b) (stone-in Black cells d i e inside) (stone-in White cells d i e inside))
    (and_right (ltb e (line_size d i)) free (and_right (among 4 j e) (ltb e (line_size d i) && free) u)))

-- ---- a Three of Black's through p, at start j of the line in direction d

module _ (cells : List ℕ) (p d j : ℕ) (hp : p < 225) (hd : d < 4) (t : T (rows_through Black Three cells p d j)) where
  abbrev cell : ℕ
  cell = gap_from (stone_at Black cells d (line_no d p)) j

  pub eye-on : T (eye_on Black Three cells d (line_no d p) j (gap_from (stone_at Black cells d (line_no d p)) j))
  unfolding eye_on row_on
  eye-on =
      gap-eye (is_black Black) (line_size d (line_no d p)) (stone_at Black cells d (line_no d p)) (stone_at White cells d (line_no d p)) j
      (through-row Black Three cells p d j t)

  pub gap-inside : gap_from (stone_at Black cells d (line_no d p)) j < line_size d (line_no d p)
  gap-inside = eye-inside Black Three cells d (line_no d p) j cell eye-on

  -- no stone stands there
  pub eye-free : is_empty (get_or cells (eye_of cells p d j) 0) ≡ true
  unfolding eye_of
  eye-free = eye-open cells d (line_no d p) j cell eye-on

  -- it has no other eye
  pub eye-only : (e : ℕ) → T (eye_on Black Three cells d (line_no d p) j e) → e ≡ gap_from (stone_at Black cells d (line_no d p)) j
  unfolding eye_on row_on
  eye-only e u =
      eye-one (is_black Black) (line_size d (line_no d p)) (stone_at Black cells d (line_no d p)) (stone_at White cells d (line_no d p)) j
      (through-row Black Three cells p d j t) e cell u eye-on

  pub eye-lt : eye_of cells p d j < 225
  unfolding eye_of
  eye-lt = point-lt d (line_no d p) cell hd (line-here d p hd hp) gap-inside

  -- it is real where its eye is good
  pub real-eye : (ask : Ask Verdict) → is_real ask cells p d j ≡ good_eye ask cells (eye_of cells p d j)
  unfolding eye_of
  real-eye ask =
      real-at ask cells p d j cell (through-row Black Three cells p d j t) eye-on
      (let h = gap-inside in let s = size-le d (line_no d p) in omega arith)

  -- .. so it is told by one look at its eye: where that completes a five it is not real, else by the answer there
  module _ (ask : Ask Verdict) {e : ℕ} (at : e ≡ eye_of cells p d j) where
    pub five-not-real : completes_five cells e ≡ true → false ≡ is_real ask cells p d j
    unfolding good_eye
    five-not-real f = sym (real-eye ask ∙ ap (good_eye ask cells) (sym at) ∙ rw f refl)

    pub real-told : completes_five cells e ≡ false → {v : Verdict} → v ≡ ask cells e → is_none v ≡ is_real ask cells p d j
    unfolding good_eye
    real-told f ev = sym (real-eye ask ∙ ap (good_eye ask cells) (sym at) ∙ rw (f, sym ev) refl)
