-- A text with no slash and no comma is one move, Black's: it is read as a point alone, and the board has that one stone. Assumes nothing.
use mathlib.Core.Path.{◌≡◌, refl, ap, sym, ◌∙◌}
use mathlib.Core.Bool.{Bool, true, false, ◌||◌, cond}
use mathlib.Core.List.{List, [], ◌∷◌}
use Prim.Native.Nat.{ℕ}
use lib.Dec.{eqb}
use borrow.Author.Tests.{eqb-true}
use Rattle.rules.specs.Refusals.{first}
use Rattle.rules.specs.Grid.{put, play}
use Rattle.rules.specs.declared.Player.TheVariants.{Black}
use Rattle.rules.proofs.Logic.{no_true}
use Rattle.lent.specs.Lists.{zeros}
use Rattle.cells.specs.Cells.{puts, moves_cells}
use Rattle.text.specs.Bytes.{comma, slash, space, trim_start, trim_end, keep_end, trim, has, parts, text_refusal}
use Rattle.text.specs.Points.{column_in, row_in, item_refusal, item_code, items_refusal, item_codes}
use Rattle.text.specs.Points.{points_refusal, points_in, point_text_refusal}
use Rattle.text.specs.Reading.{moves_in, form_refusal, read_refusal, read_cells}
use Rattle.text.proofs.Places.{parts_whole}

-- ---- a trimmed text, trimmed again, is the same

end-again : (s : List ℕ) → trim_end (trim_end s) ≡ trim_end s
unfolding trim_end keep_end
end-again [] = refl
end-again (b ∷ s) = go (trim_end s) (end-again s)
  where
    one : (t : Bool) → space b ≡ t → trim_end (cond t [] (b ∷ [])) ≡ cond t [] (b ∷ [])
    one true e = refl
    one false e = rw e

    go : (t : List ℕ) → trim_end t ≡ t → trim_end (keep_end b t) ≡ keep_end b t
    go [] e = one (space b) refl
    go (c ∷ t) e = ap (keep_end b) e

-- what has no white space at its start has none there without that at its end
start-end : (b : ℕ) (s : List ℕ) → space b ≡ false → trim_start (trim_end (b ∷ s)) ≡ trim_end (b ∷ s)
unfolding trim_start trim_end keep_end
start-end b s e = go (trim_end s)
  where
    go : (t : List ℕ) → trim_start (keep_end b t) ≡ keep_end b t
    go [] = rw (e, e)
    go (c ∷ t) = rw e

start-kept : (s : List ℕ) → trim_start (trim_end (trim_start s)) ≡ trim_end (trim_start s)
unfolding trim_start trim_end
start-kept [] = refl
start-kept (b ∷ s) = go (space b) refl (start-kept s)
  where
    go : (t : Bool) → space b ≡ t → trim_start (trim_end (trim_start s)) ≡ trim_end (trim_start s)
        → trim_start (trim_end (cond t (trim_start s) (b ∷ s))) ≡ trim_end (cond t (trim_start s) (b ∷ s))
    go true e r = r
    go false e r = start-end b s e

trim-again : (s : List ℕ) → trim (trim s) ≡ trim s
unfolding trim
trim-again s = ap trim_end (start-kept s) ∙ end-again (trim_start s)

-- ---- no byte comes in by trimming

neither : (a b : Bool) → (a || b) ≡ false → (a ≡ false) × (b ≡ false)
neither true b e = absurd (no_true (sym e))
neither false b e = (refl, e)

start-without : (d : ℕ) (s : List ℕ) → has d s ≡ false → has d (trim_start s) ≡ false
unfolding trim_start has
start-without d [] h = refl
start-without d (b ∷ s) h = go (space b) (start-without d s (neither (eqb b d) (has d s) h).1)
  where
    go : (t : Bool) → has d (trim_start s) ≡ false → has d (cond t (trim_start s) (b ∷ s)) ≡ false
    go true r = r
    go false r = h

end-without : (d : ℕ) (s : List ℕ) → has d s ≡ false → has d (trim_end s) ≡ false
unfolding trim_end keep_end has
end-without d [] h = refl
end-without d (b ∷ s) h = go (trim_end s) (end-without d s (neither (eqb b d) (has d s) h).1)
  where
    one : (t : Bool) → has d (cond t [] (b ∷ [])) ≡ false
    one true = refl
    one false = rw (neither (eqb b d) (has d s) h).0

    go : (t : List ℕ) → has d t ≡ false → has d (keep_end b t) ≡ false
    go [] r = one (space b)
    go (c ∷ t) r = rw (neither (eqb b d) (has d s) h).0 r

trim-without : (d : ℕ) (s : List ℕ) → has d s ≡ false → has d (trim s) ≡ false
unfolding trim
trim-without d s h = end-without d (trim_start s) (start-without d s h)

-- ---- "text with no "/" and no "," is now one move" (document 02)

none-behind : (n : ℕ) → first n 0 ≡ n
unfolding first
none-behind n = go (eqb n 0) refl
  where
    go : (t : Bool) → eqb n 0 ≡ t → cond t 0 n ≡ n
    go true e = sym (eqb-true n 0 e)
    go false e = refl

item-trimmed : (s : List ℕ) → (item_refusal (trim s) ≡ item_refusal s) × (item_code (trim s) ≡ item_code s)
unfolding item_refusal item_code column_in row_in
item-trimmed s = let e = trim-again s in (rw e, rw e)

module _ (s : List ℕ) (p : has slash s ≡ false) (q : has comma s ≡ false) where
  one-item : parts comma (trim (trim s)) ≡ trim s ∷ []
  one-item = ap (parts comma) (trim-again s) ∙ parts_whole comma (trim s) (trim-without comma s q)

  item-alone : items_refusal (trim s ∷ []) ≡ item_refusal s
  unfolding items_refusal
  item-alone = none-behind (item_refusal (trim s)) ∙ (item-trimmed s).0

  -- it is refused as a point alone is: 1, 2, 3, 4
  pub lone-refusal : read_refusal s ≡ point_text_refusal s
  unfolding read_refusal form_refusal point_text_refusal points_refusal
  lone-refusal = rw (p, one-item) (ap (first (text_refusal s)) item-alone)

  -- .. and else the board has one stone, Black's, at that point
  pub lone-cells : read_cells s ≡ put Black (zeros 225) (item_code s)
  unfolding read_cells moves_in moves_cells points_in item_codes puts play
  lone-cells = rw (p, one-item) (ap (put Black (zeros 225)) (item-trimmed s).1)
