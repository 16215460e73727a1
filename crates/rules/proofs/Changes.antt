-- Put and remove on the cells: what stands where, on the lines too; any sequence as a plain map; one empty point fewer after a stone.
-- Assumes nothing.
use mathlib.Core.Path.{◌≡◌, refl, sym, subst, subst⁻¹, ap, ◌∙◌}
use mathlib.Core.Logic.{◌⊎◌, inl, inr}
use mathlib.Core.Bool.{Bool, true, false, cond}
use mathlib.Core.List.{List, [], ◌∷◌}
use Prim.Native.Nat.{ℕ, zero, suc, ◌≤◌, ◌<◌}
use native.Mathlib.Nat.{not-suc-le-zero, le_of_suc-le-suc}
use native.Mathlib.Omega.{arith}
use native.Mathlib.Decide.{ℕ_discrete}
use lib.Dec.{T, eqb, ltb}
use lib.ListN.{length, get_or, set, length-set}
use lib.Seq.{get_or-set_same, get_or-set_other, set-get_or}
use borrow.Author.Tests.{eq-eqb, ne_eqb, ltb-true, ltb-false}
use Rattle.rules.specs.Numbers.{colour_no}
use Rattle.rules.specs.Point.{line_no, cell_no, line_count, line_size, point_at}
use Rattle.rules.specs.Grid.{is_empty, put, remove, Change, put_at, remove_at, play, play_map, empties, stone_at}
use Rattle.rules.specs.declared.Player.{Player}
use Rattle.rules.specs.declared.Player.TheVariants.{Black, White}
use Rattle.rules.proofs.Logic.{decide}
use Rattle.rules.proofs.Address.{point-here, cell-here, line-there, cell-there}
use Rattle.rules.proofs.Rows.{stone-in, stone-out}

-- what stands at q after v was set at p
pub set_at : (cells : List ℕ) (p v q : ℕ) → q < length cells → get_or (set cells p v) q 0 ≡ cond (eqb q p) v (get_or cells q 0)
set_at cells p v q h = at (ℕ_discrete q p)
  where
    at : Dec (q ≡ p) → get_or (set cells p v) q 0 ≡ cond (eqb q p) v (get_or cells q 0)
    at (yes e) =
        rw (eq-eqb q p e)
        (ap (λ (x : ℕ). get_or (set cells p v) x 0) e ∙ get_or-set_same cells p v 0 (subst⁻¹ (λ (x : ℕ). x < length cells) (sym e) h))
    at (no e) = rw (ne_eqb q p e) (get_or-set_other cells p q v 0 e)

-- "remove of an empty point changes nothing"
pub remove-none : (cells : List ℕ) (p : ℕ) → get_or cells p 0 ≡ 0 → remove cells p ≡ cells
remove-none cells p e = ap (set cells p) (sym e) ∙ set-get_or cells p 0

-- ---- a stone on a line of the board after one cell was set

module _ (r : Player) (cells : List ℕ) (d i p v : ℕ) (hd : d < 4) (hi : i < line_count d) where
  -- a line that does not go through the point stays
  pub stone-off : (line_no d p ≡ i → ⊥) → (j : ℕ) → stone_at r (set cells p v) d i j ≡ stone_at r cells d i j
  stone-off off j = go (decide (ltb j (line_size d i)))
    where
      go : (ltb j (line_size d i) ≡ true) ⊎ (ltb j (line_size d i) ≡ false) → stone_at r (set cells p v) d i j ≡ stone_at r cells d i j
      go (inl t) =
          let h = ltb-true j (line_size d i) t in
          stone-in r (set cells p v) d i j h
          ∙ ap (λ (x : ℕ). eqb x (colour_no r))
          (get_or-set_other cells p (point_at d i j) v 0 (λ q. off (ap (line_no d) (sym q) ∙ line-there d i j hd hi h)))
          ∙ sym (stone-in r cells d i j h)
      go (inr t) =
          let h = ltb-false j (line_size d i) t in
          stone-out r (set cells p v) d i j h ∙ sym (stone-out r cells d i j h)

  -- one that does has the value's stone, or none, at the point's cell
  pub stone-on : length cells ≡ 225 → p < 225 → line_no d p ≡ i → (j : ℕ)
      → cond (eqb j (cell_no d p)) (eqb v (colour_no r)) (stone_at r cells d i j) ≡ stone_at r (set cells p v) d i j
  stone-on long hp on j = go (ℕ_discrete j (cell_no d p)) (decide (ltb j (line_size d i)))
    where
      here : point_at d i (cell_no d p) ≡ p
      here = ap (λ (x : ℕ). point_at d x (cell_no d p)) (sym on) ∙ point-here d p hd hp

      inside : cell_no d p < line_size d i
      inside = subst (λ (x : ℕ). cell_no d p < line_size d x) on (cell-here d p hd hp)

      go : Dec (j ≡ cell_no d p) → (ltb j (line_size d i) ≡ true) ⊎ (ltb j (line_size d i) ≡ false)
          → cond (eqb j (cell_no d p)) (eqb v (colour_no r)) (stone_at r cells d i j) ≡ stone_at r (set cells p v) d i j
      go (yes e) t =
          rw (eq-eqb j (cell_no d p) e)
          (sym (ap (stone_at r (set cells p v) d i) e ∙ stone-in r (set cells p v) d i (cell_no d p) inside
          ∙ ap (λ (x : ℕ). eqb x (colour_no r)) (ap (λ (x : ℕ). get_or (set cells p v) x 0) here ∙ get_or-set_same cells p v 0 (omega arith))))
      go (no e) (inl t) =
          let h = ltb-true j (line_size d i) t in
          rw (ne_eqb j (cell_no d p) e)
          (stone-in r cells d i j h
          ∙ ap (λ (x : ℕ). eqb x (colour_no r))
          (sym (get_or-set_other cells p (point_at d i j) v 0 (λ q. e (sym (cell-there d i j hd hi h) ∙ ap (cell_no d) q))))
          ∙ sym (stone-in r (set cells p v) d i j h))
      go (no e) (inr t) =
          let h = ltb-false j (line_size d i) t in
          rw (ne_eqb j (cell_no d p) e) (stone-out r cells d i j h ∙ sym (stone-out r (set cells p v) d i j h))

-- ---- any sequence of both

-- maps that agree below n agree there after the same changes
map_same : (n : ℕ) (changes : List Change) (f g : ℕ → ℕ) → ((q : ℕ) → q < n → f q ≡ g q) → (q : ℕ) → q < n
    → play_map changes f q ≡ play_map changes g q
unfolding play_map
map_same n [] f g h q l = h q l
map_same n (put_at r p ∷ changes) f g h q l =
    map_same n changes (λ q. cond (eqb q p) (colour_no r) (f q)) (λ q. cond (eqb q p) (colour_no r) (g q))
    (λ q l. ap (λ (x : ℕ). cond (eqb q p) (colour_no r) x) (h q l)) q l
map_same n (remove_at p ∷ changes) f g h q l =
    map_same n changes (λ q. cond (eqb q p) 0 (f q)) (λ q. cond (eqb q p) 0 (g q)) (λ q l. ap (λ (x : ℕ). cond (eqb q p) 0 x) (h q l)) q l

-- "Any sequence of both answers as a plain map from 225 points to empty, black or white."
pub play-map : (changes : List Change) (cells : List ℕ) → length cells ≡ 225 → (q : ℕ) → q < 225
    → get_or (play changes cells) q 0 ≡ play_map changes (λ p. get_or cells p 0) q
unfolding play play_map
play-map [] cells e q h = refl
play-map (put_at r p ∷ changes) cells e q h =
    play-map changes (put r cells p) (length-set cells p (colour_no r) ∙ e) q h
    ∙ map_same 225 changes (λ q. get_or (put r cells p) q 0) (λ q. cond (eqb q p) (colour_no r) (get_or cells q 0))
    (λ q l. set_at cells p (colour_no r) q (omega arith)) q h
play-map (remove_at p ∷ changes) cells e q h =
    play-map changes (remove cells p) (length-set cells p 0 ∙ e) q h
    ∙ map_same 225 changes (λ q. get_or (remove cells p) q 0) (λ q. cond (eqb q p) 0 (get_or cells q 0))
    (λ q l. set_at cells p 0 q (omega arith)) q h

-- the board keeps its 225 cells
pub play-length : (changes : List Change) (cells : List ℕ) → length (play changes cells) ≡ length cells
unfolding play
play-length [] cells = refl
play-length (put_at r p ∷ changes) cells = play-length changes (put r cells p) ∙ length-set cells p (colour_no r)
play-length (remove_at p ∷ changes) cells = play-length changes (remove cells p) ∙ length-set cells p 0

-- ---- the number of empty points

pub empties-le : (cells : List ℕ) → empties cells ≤ length cells
unfolding empties
empties-le [] = omega arith
empties-le (v ∷ cells) = at (is_empty v) (empties-le cells)
  where
    at : (b : Bool) → empties cells ≤ length cells → cond b (suc (empties cells)) (empties cells) ≤ suc (length cells)
    at true h = omega arith
    at false h = omega arith

-- a stone at an empty point leaves one empty point fewer
pub empties-put : (r : Player) (cells : List ℕ) (p : ℕ) → p < length cells → T (is_empty (get_or cells p 0))
    → empties cells ≡ suc (empties (put r cells p))
unfolding empties
empties-put r [] p h t = absurd (not-suc-le-zero h)
empties-put r (v ∷ cells) zero h t = at r (is_empty v) t
  where
    at : (r : Player) (b : Bool) → T b → cond b (suc (empties cells)) (empties cells) ≡ suc (empties (colour_no r ∷ cells))
    at Black true t = refl
    at White true t = refl
    at r false t = absurd t
empties-put r (v ∷ cells) (suc p) h t = at (is_empty v) (empties-put r cells p (le_of_suc-le-suc h) t)
  where
    at : (b : Bool) → empties cells ≡ suc (empties (put r cells p))
        → cond b (suc (empties cells)) (empties cells) ≡ suc (cond b (suc (empties (put r cells p))) (empties (put r cells p)))
    at true e = ap suc e
    at false e = e
