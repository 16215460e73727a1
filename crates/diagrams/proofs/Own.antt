-- A board's own stones, Black's and then White's, put one after the other on the empty board, give the board. Assumes nothing.
use mathlib.Core.Path.{◌≡◌, refl, ap, sym, ◌∙◌}
use mathlib.Core.Bool.{Bool, true, false, ◌||◌, cond}
use mathlib.Core.List.{List, [], ◌∷◌, ◌++◌}
use Prim.Native.Nat.{ℕ, zero, suc, ◌≤◌, ◌<◌}
use native.Mathlib.Nat.{not-suc-le-zero}
use native.Mathlib.Omega.{arith}
use native.Mathlib.Decide.{ℕ_discrete}
use lib.Dec.{eqb}
use lib.ListN.{length, get_or}
use lib.Seq.{ext_get_or}
use borrow.Author.Tests.{eq-eqb, ne_eqb}
use Rattle.rules.specs.Numbers.{colour_no}
use Rattle.rules.specs.Tools.{gather, only}
use Rattle.rules.specs.Grid.{play, play_map, stones_of}
use Rattle.rules.specs.declared.Player.{Player}
use Rattle.rules.specs.declared.Player.TheVariants.{Black, White}
use Rattle.rules.proofs.Changes.{play-map, play-length}
use Rattle.lent.specs.Lists.{zeros}
use Rattle.lent.proofs.Laws.{length-zeros, zeros-at}
use Rattle.cells.specs.Cells.{Cells, puts, stones_cells}

-- ---- whether a list names a point

names : ℕ → List ℕ → Bool
names q [] = false
names q (p ∷ codes) = eqb q p || names q codes

names-append : (q : ℕ) (l m : List ℕ) → names q (l ++ m) ≡ (names q l || names q m)
unfolding names
names-append q [] m = refl
names-append q (p ∷ l) m = go (eqb q p) (names-append q l m)
  where
    go : (t : Bool) → names q (l ++ m) ≡ (names q l || names q m) → (t || names q (l ++ m)) ≡ ((t || names q l) || names q m)
    go true e = refl
    go false e = e

-- ---- the numbers below n that pass

module _ (f : ℕ → Bool) where
  abbrev passing : ℕ → List ℕ
  passing n = gather n (λ p. only (f p) (p ∷ []))

  other : (q n : ℕ) → (q ≡ n → ⊥) → (b : Bool) → names q (only b (n ∷ [])) ≡ false
  unfolding names
  other q n h true = rw (ne_eqb q n h)
  other q n h false = refl

  same : (q n : ℕ) → q ≡ n → (b : Bool) → names q (only b (n ∷ [])) ≡ b
  unfolding names
  same q n h true = rw (eq-eqb q n h)
  same q n h false = refl

  past : (n q : ℕ) → n ≤ q → names q (passing n) ≡ false
  unfolding gather names
  past zero q h = refl
  past (suc n) q h =
      names-append q (passing n) (only (f n) (n ∷ []))
      ∙ rw (past n q (omega arith), other q n (λ e. omega arith) (f n))

  below : (n q : ℕ) → q < n → names q (passing n) ≡ f q
  unfolding gather names
  below zero q h = absurd (not-suc-le-zero h)
  below (suc n) q h = names-append q (passing n) (only (f n) (n ∷ [])) ∙ go (ℕ_discrete q n) (below n q)
    where
      or-none : (b : Bool) → (b || false) ≡ b
      or-none true = refl
      or-none false = refl

      go : Dec (q ≡ n) → (q < n → names q (passing n) ≡ f q) → (names q (passing n) || names q (only (f n) (n ∷ []))) ≡ f q
      go (yes e) r = rw (past n q (omega arith), same q n e (f n)) (ap f (sym e))
      go (no e) r = rw (r (omega arith), other q n e (f n)) (or-none (f q))

-- ---- stones of one colour, put one after the other

puts-map : (r : Player) (codes : List ℕ) (f : ℕ → ℕ) (q : ℕ)
    → play_map (puts false r codes) f q ≡ cond (names q codes) (colour_no r) (f q)
unfolding puts play_map names
puts-map r [] f q = refl
puts-map r (p ∷ codes) f q = puts-map r codes (λ q. cond (eqb q p) (colour_no r) (f q)) q ∙ go (eqb q p) (names q codes)
  where
    go : (a b : Bool) → cond b (colour_no r) (cond a (colour_no r) (f q)) ≡ cond (a || b) (colour_no r) (f q)
    go true true = refl
    go true false = refl
    go false true = refl
    go false false = refl

-- ---- the whole

value-back : (v : ℕ) → v ≤ 2 → cond (eqb v 2) 2 (cond (eqb v 1) 1 0) ≡ v
value-back zero h = refl
value-back (suc zero) h = refl
value-back (suc (suc zero)) h = refl
value-back (suc (suc (suc v))) h = omega arith

module _ (cells : List ℕ) (ok : Cells cells) where
  side-names : (r : Player) (q : ℕ) → q < 225 → names q (stones_of r cells) ≡ eqb (get_or cells q 0) (colour_no r)
  unfolding stones_of
  side-names r q h = below (λ p. eqb (get_or cells p 0) (colour_no r)) 225 q h

  abbrev blacks : List ℕ
  blacks = play (puts false Black (stones_of Black cells)) (zeros 225)

  blacks-long : length blacks ≡ 225
  blacks-long = play-length (puts false Black (stones_of Black cells)) (zeros 225) ∙ length-zeros 225

  black-at : (q : ℕ) → q < 225 → get_or blacks q 0 ≡ cond (eqb (get_or cells q 0) 1) 1 0
  black-at q h =
      play-map (puts false Black (stones_of Black cells)) (zeros 225) (length-zeros 225) q h
      ∙ puts-map Black (stones_of Black cells) (λ p. get_or (zeros 225) p 0) q
      ∙ rw (side-names Black q h, zeros-at 225 q)

  pub own-stones : stones_cells (stones_of Black cells) (stones_of White cells) ≡ cells
  unfolding stones_cells
  own-stones =
      ext_get_or 0 (play (puts false White (stones_of White cells)) blacks) cells (long ∙ sym ok.long) (λ q b. at q (omega (arith, long)))
    where
      long : length (play (puts false White (stones_of White cells)) blacks) ≡ 225
      long = play-length (puts false White (stones_of White cells)) blacks ∙ blacks-long

      at : (q : ℕ) → q < 225 → get_or (play (puts false White (stones_of White cells)) blacks) q 0 ≡ get_or cells q 0
      at q h =
          play-map (puts false White (stones_of White cells)) blacks blacks-long q h
          ∙ puts-map White (stones_of White cells) (λ p. get_or blacks p 0) q
          ∙ rw (side-names White q h, black-at q h) (value-back (get_or cells q 0) (ok.small q h))
