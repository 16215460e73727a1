-- Where an attack can be: "only points where the attacker has a Sword or a Four through them". Assumes nothing.
use mathlib.Core.Path.{◌≡◌, sym, ap, ◌∙◌}
use mathlib.Core.Logic.{◌⊎◌, inl, inr}
use mathlib.Core.Bool.{Bool, not, ◌&&◌}
use mathlib.Core.List.{List, [], ◌∷◌}
use Prim.Native.Nat.{ℕ, ◌<◌}
use lib.Dec.{T, eqb}
use lib.ListN.{length, get_or}
use Rattle.rules.specs.Numbers.{is_black, opponent_of}
use Rattle.rules.specs.Line.{Stones, scores, among, row_at, is_eye, eye_of_some}
use Rattle.rules.specs.Point.{line_no, cell_no, line_size}
use Rattle.rules.specs.Grid.{is_empty, put, stone_at, row_on, rows_through, four_eye}
use Rattle.rules.specs.Forbidden.{some_row}
use Rattle.rules.specs.declared.Player.{Player}
use Rattle.rules.specs.declared.RowKind.TheVariants.{Sword, Four}
use Rattle.rules.proofs.Logic.{along, and_left, and_right, and_same, any-elim, or_cases}
use Rattle.rules.proofs.More.{some_row-intro}
use Rattle.hint.specs.Hint.{completes, is_four_eye, eyes_from, ends_by, ends_at, only_eye, forces}
use Rattle.hint.proofs.OneLine.{scores-grown}
use Rattle.hint.proofs.Stone.{within, cell-none, own-there, own_same, others}
use Rattle.hint.proofs.Picked.{Picked, eyes-picked}

module _ (r : Player) (cells : List ℕ) (p : ℕ) (long : length cells ≡ 225) (hp : p < 225) (none : T (is_empty (get_or cells p 0))) where
  -- the Fours through p after the stone are the Swords through it before
  pub sword-four : (d j : ℕ) → d < 4 → rows_through r Sword cells p d j ≡ rows_through r Four (put r cells p) p d j
  unfolding rows_through row_on row_at
  sword-four d j hd =
      and_same (among 5 j (cell_no d p))
      (scores (is_black r) (line_size d (line_no d p)) (stone_at r cells d (line_no d p)) (stone_at (opponent_of r) cells d (line_no d p)) 3 j)
      (scores (is_black r) (line_size d (line_no d p)) (stone_at r (put r cells p) d (line_no d p))
      (stone_at (opponent_of r) (put r cells p) d (line_no d p)) 4 j)
      (λ a.
      let w = within d j (cell_no d p) a in
      scores-grown (is_black r) (line_size d (line_no d p)) (stone_at r cells d (line_no d p)) (stone_at r (put r cells p) d (line_no d p))
      (stone_at (opponent_of r) cells d (line_no d p)) (cell_no d p) (cell-none cells p long hp none r d hd)
      (own-there cells p long hp none r d hd) (own_same cells p long hp none r d hd) 3 j w.0 w.1
      ∙ ap (λ (o : Stones). scores (is_black r) (line_size d (line_no d p)) (stone_at r (put r cells p) d (line_no d p)) o 4 j)
      (sym (others cells p long hp none r d hd)))

  pub eye-sword : (e : ℕ) → T (is_four_eye r (put r cells p) p e) → T (some_row (rows_through r Sword cells p))
  unfolding is_four_eye four_eye eye_of_some
  eye-sword e t =
      let board = put r cells p in
      let a = any-elim 4 (λ d. eqb (line_no d e) (line_no d p) && four_eye r board p d (cell_no d e)) t in
      let d = a.0 in
      let i = line_no d p in
      let eye : ℕ → Bool = λ j. is_eye (line_size d i) (stone_at r board d i) (stone_at (opponent_of r) board d i) Four j (cell_no d e) in
      let b = any-elim 16 (λ j. rows_through r Four board p d j && eye j)
      (and_right (eqb (line_no d e) i) (four_eye r board p d (cell_no d e)) a.2) in
      some_row-intro (rows_through r Sword cells p) d b.0 a.1 b.1
      (along (sym (sword-four d b.0 a.1)) (and_left (rows_through r Four board p d b.0) (eye b.0) b.2))

  -- an attack that ends a line or goes on in one
  pub end-shape : T (ends_at r cells p) → T (completes r cells p) ⊎ T (some_row (rows_through r Sword cells p))
  unfolding ends_at ends_by
  end-shape t = at (or_cases (completes r cells p) (ends_by r (put r cells p) (eyes_from r (put r cells p) p)) t)
    where
      by-eyes : (l : List ℕ) → Picked (is_four_eye r (put r cells p) p) 225 l → T (ends_by r (put r cells p) l)
          → T (some_row (rows_through r Sword cells p))
      by-eyes [] h u = absurd u
      by-eyes (e ∷ []) h u = eye-sword e h.1
      by-eyes (e ∷ f ∷ more) h u = eye-sword e h.2

      at : T (completes r cells p) ⊎ T (ends_by r (put r cells p) (eyes_from r (put r cells p) p))
          → T (completes r cells p) ⊎ T (some_row (rows_through r Sword cells p))
      at (inl u) = inl u
      at (inr u) = inr (by-eyes (eyes_from r (put r cells p) p) (eyes-picked r (put r cells p) p) u)

  pub forces-shape : (e : ℕ) → T (forces r cells p e) → T (some_row (rows_through r Sword cells p))
  unfolding forces only_eye
  forces-shape e t =
      by-eyes (eyes_from r (put r cells p) p) (eyes-picked r (put r cells p) p)
      (and_right (not (ends_at r cells p)) (only_eye (eyes_from r (put r cells p) p) e) t)
    where
      by-eyes : (l : List ℕ) → Picked (is_four_eye r (put r cells p) p) 225 l → T (only_eye l e) → T (some_row (rows_through r Sword cells p))
      by-eyes [] h u = absurd u
      by-eyes (f ∷ []) h u = eye-sword f h.1
      by-eyes (f ∷ g ∷ more) h u = absurd u
