-- Lists in which no code stands twice: how they grow, what a game on an empty board makes of them, and that there are at most 225. Assumes
-- nothing.
use mathlib.Core.Path.{◌≡◌, refl, sym, ap, ◌∙◌}
use mathlib.Core.Bool.{Bool, true, false, not, ◌||◌, cond}
use mathlib.Core.Logic.{◌⊎◌, inl, inr}
use mathlib.Core.List.{List, [], ◌∷◌, ◌++◌, append_assoc, append-nil}
use Prim.Native.Nat.{ℕ, zero, suc, ◌+◌, ◌≤◌, ◌<◌}
use native.Mathlib.Nat.{zero-add}
use native.Mathlib.Omega.{arith}
use lib.Dec.{T, eqb, ltb, lt→ltb}
use lib.ListN.{length, get_or, length-set}
use lib.Seq.{get_or-set_other}
use borrow.Author.Tests.{eqb-false, ne_eqb}
use Rattle.rules.specs.Numbers.{colour_no, opponent_of}
use Rattle.rules.specs.Bit.{digit, count_of}
use Rattle.rules.specs.Tools.{all_below}
use Rattle.rules.specs.Grid.{is_empty, put, play, empties}
use Rattle.rules.specs.declared.Player.{Player}
use Rattle.rules.specs.declared.Player.TheVariants.{Black}
use Rattle.rules.proofs.Logic.{decide, no_true, all-intro}
use Rattle.rules.proofs.Refusals.{pass}
use Rattle.rules.proofs.Changes.{empties-put, play-length}
use Rattle.lent.specs.Lists.{zeros}
use Rattle.lent.proofs.Laws.{length-zeros, zeros-at}
use Rattle.cells.specs.Cells.{puts, moves_cells, codes_refusal}
use Rattle.text.specs.Bytes.{has}
use Rattle.display.proofs.PointBack.{Points}
use Rattle.mending.specs.Mending.{once_from, once_of}

-- no code twice: none stands among those behind it
abbrev pub Once : List ℕ → Type 0
Once [] = Unit {0}
Once (c ∷ codes) = (has c codes ≡ false) × Once codes

-- ---- what stands in a list

neither : (a b : Bool) → (a || b) ≡ false → (a ≡ false) × (b ≡ false)
neither true b e = absurd (no_true (sym e))
neither false b e = (refl, e)

or-group : (a b c : Bool) → (a || (b || c)) ≡ ((a || b) || c)
or-group true b c = refl
or-group false b c = refl

other : (a b : ℕ) → eqb a b ≡ false → eqb b a ≡ false
other a b e = ne_eqb b a (λ s. eqb-false a b e (sym s))

pub has-append : (d : ℕ) (s t : List ℕ) → has d (s ++ t) ≡ (has d s || has d t)
unfolding has
has-append d [] t = refl
has-append d (b ∷ s) t = ap (λ (x : Bool). eqb b d || x) (has-append d s t) ∙ or-group (eqb b d) (has d s) (has d t)

-- one more that is not there
once_more : (l : List ℕ) (c : ℕ) → Once l → has c l ≡ false → Once (l ++ (c ∷ []))
unfolding has
once_more [] c o h = (refl, tt)
once_more (a ∷ l) c o h =
    let (ne, h') = neither (eqb a c) (has c l) h in
    let none : has a (l ++ (c ∷ [])) ≡ false = has-append a l (c ∷ []) ∙ rw (o.0, other a c ne) in
    (none, once_more l c o.1 h')

-- what stands behind some codes is none of them
once-apart : (l : List ℕ) (c : ℕ) (codes : List ℕ) → Once (l ++ (c ∷ codes)) → has c l ≡ false
unfolding has
once-apart [] c codes o = refl
once-apart (a ∷ l) c codes o =
    let (_, h) = neither (has a l) (has a (c ∷ codes)) (sym (has-append a l (c ∷ codes)) ∙ o.0) in
    let (ne, _) = neither (eqb c a) (has a codes) h in
    rw (other c a ne) (once-apart l c codes o.1)

one-behind : (l : List ℕ) (c : ℕ) (codes : List ℕ) → (l ++ (c ∷ [])) ++ codes ≡ l ++ (c ∷ codes)
one-behind l c codes = append_assoc l (c ∷ []) codes

points-more : (l : List ℕ) (c : ℕ) → Points l → c < 225 → Points (l ++ (c ∷ []))
points-more [] c h k = (k, tt)
points-more (a ∷ l) c h k = (h.0, points-more l c h.1 k)

-- ---- the codes before the first repeat

pub once-kept : (kept codes : List ℕ) → Once kept → Once (once_from kept codes)
unfolding once_from
once-kept kept [] o = o
once-kept kept (c ∷ codes) o = go (decide (has c kept)) (once-kept (kept ++ (c ∷ [])) codes)
  where
    go : (has c kept ≡ true) ⊎ (has c kept ≡ false) → (Once (kept ++ (c ∷ [])) → Once (once_from (kept ++ (c ∷ [])) codes))
        → Once (cond (has c kept) kept (once_from (kept ++ (c ∷ [])) codes))
    go (inl t) ih = rw t o
    go (inr t) ih = rw t (ih (once_more kept c o t))

pub once-points : (kept codes : List ℕ) → Points kept → Points codes → Points (once_from kept codes)
unfolding once_from
once-points kept [] h k = h
once-points kept (c ∷ codes) h k = go (decide (has c kept)) (once-points (kept ++ (c ∷ [])) codes (points-more kept c h k.0) k.1)
  where
    go : (has c kept ≡ true) ⊎ (has c kept ≡ false) → Points (once_from (kept ++ (c ∷ [])) codes)
        → Points (cond (has c kept) kept (once_from (kept ++ (c ∷ [])) codes))
    go (inl t) ih = rw t h
    go (inr t) ih = rw t ih

-- where there is none all are kept
once-all-from : (kept codes : List ℕ) → Once (kept ++ codes) → once_from kept codes ≡ kept ++ codes
unfolding once_from
once-all-from kept [] o = sym (append-nil kept)
once-all-from kept (c ∷ codes) o =
    rw (once-apart kept c codes o)
    (once-all-from (kept ++ (c ∷ [])) codes (rw (one-behind kept c codes) o) ∙ one-behind kept c codes)

pub once-all : (codes : List ℕ) → Once codes → once_of codes ≡ codes
unfolding once_of
once-all codes o = once-all-from [] codes o

-- they are the first of the codes
once-front-from : (kept codes : List ℕ) → (rest : List ℕ) × (kept ++ codes ≡ once_from kept codes ++ rest)
unfolding once_from
once-front-from kept [] = ([], refl)
once-front-from kept (c ∷ codes) = go (decide (has c kept)) (once-front-from (kept ++ (c ∷ [])) codes)
  where
    go : (has c kept ≡ true) ⊎ (has c kept ≡ false)
        → (rest : List ℕ) × ((kept ++ (c ∷ [])) ++ codes ≡ once_from (kept ++ (c ∷ [])) codes ++ rest)
        → (rest : List ℕ) × (kept ++ (c ∷ codes) ≡ cond (has c kept) kept (once_from (kept ++ (c ∷ [])) codes) ++ rest)
    go (inl t) ih = (c ∷ codes, rw t)
    go (inr t) ih = (ih.0, rw t (sym (one-behind kept c codes) ∙ ih.1))

pub once-front : (codes : List ℕ) → (rest : List ℕ) × (codes ≡ once_of codes ++ rest)
unfolding once_of
once-front codes = once-front-from [] codes

-- ---- played on a board where their points are empty, they leave as many empty points fewer

abbrev Free : List ℕ → List ℕ → Type 0
Free cells [] = Unit {0}
Free cells (c ∷ codes) = T (is_empty (get_or cells c 0)) × Free cells codes

free-put : (r : Player) (cells : List ℕ) (c : ℕ) (codes : List ℕ) → has c codes ≡ false → Free cells codes → Free (put r cells c) codes
unfolding has
free-put r cells c [] h f = tt
free-put r cells c (d ∷ codes) h f =
    let (ne, h') = neither (eqb d c) (has c codes) h in
    (rw (get_or-set_other cells c d (colour_no r) 0 (eqb-false d c ne)) f.0, free-put r cells c codes h' f.1)

played : (r : Player) (cells codes : List ℕ) → length cells ≡ 225 → Once codes → Points codes → Free cells codes
    → empties cells ≡ length codes + empties (play (puts true r codes) cells)
unfolding puts play
played r cells [] l o h f = sym (zero-add (empties cells))
played r cells (c ∷ codes) l o h f =
    let one = empties-put r cells c (omega (arith, h.0)) f.0 in
    let rest = played (opponent_of r) (put r cells c) codes (length-set cells c (colour_no r) ∙ l) o.1 h.1
    (free-put r cells c codes o.0 f.1) in
    omega (arith, one, rest)

free-zeros : (codes : List ℕ) → Free (zeros 225) codes
free-zeros [] = tt
free-zeros (c ∷ codes) = (rw (zeros-at 225 c) tt, free-zeros codes)

empties-zeros : (n : ℕ) → empties (zeros n) ≡ n
unfolding zeros empties
empties-zeros zero = refl
empties-zeros (suc n) = ap suc (empties-zeros n)

-- stones and empty points together are all points
stones-and : (cells : List ℕ) → count_of (length cells) (λ p. not (is_empty (get_or cells p 0))) + empties cells ≡ length cells
unfolding count_of empties
stones-and [] = refl
stones-and (v ∷ cells) = go (is_empty v) (stones-and cells)
  where
    go : (b : Bool) → count_of (length cells) (λ p. not (is_empty (get_or cells p 0))) + empties cells ≡ length cells
        → digit (not b) + count_of (length cells) (λ p. not (is_empty (get_or cells p 0))) + cond b (suc (empties cells)) (empties cells)
        ≡ suc (length cells)
    go true e = omega arith
    go false e = omega arith

points-in : (codes : List ℕ) → Points codes → (i : ℕ) → i < length codes → get_or codes i 0 < 225
points-in [] h i k = absurd (omega arith)
points-in (c ∷ codes) h zero k = h.0
points-in (c ∷ codes) h (suc i) k = points-in codes h.1 i (omega arith)

module _ (codes : List ℕ) (o : Once codes) (h : Points codes) where
  moves-played : 225 ≡ length codes + empties (moves_cells codes)
  unfolding moves_cells
  moves-played = sym (empties-zeros 225) ∙ played Black (zeros 225) codes (length-zeros 225) o h (free-zeros codes)

  -- so there are at most 225
  pub once-short : length codes ≤ 225
  once-short = omega (arith, moves-played)

  -- .. and as many stones on the board
  pub stones-played : count_of 225 (λ p. not (is_empty (get_or (moves_cells codes) p 0))) ≡ length codes
  unfolding moves_cells
  stones-played =
      let l = play-length (puts true Black codes) (zeros 225) ∙ length-zeros 225 in
      let e = ap (λ (n : ℕ). count_of n (λ p. not (is_empty (get_or (moves_cells codes) p 0))) + empties (moves_cells codes)) (sym l)
      ∙ stones-and (moves_cells codes) ∙ l in
      omega (arith, moves-played)

  -- no code is refused
  pub points-pass : codes_refusal codes ≡ 0
  unfolding codes_refusal
  points-pass =
      pass (all_below (length codes) (λ i. ltb (get_or codes i 0) 225)) 8
      (all-intro (length codes) (λ i. ltb (get_or codes i 0) 225) (λ i k. lt→ltb (get_or codes i 0) 225 (points-in codes h i k)))
