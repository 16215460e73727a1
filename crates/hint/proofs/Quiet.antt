-- After a forced reply the defender can complete a five only by a Four through that reply. So the next node need not look at the whole
-- board: the eyes of the reply's own Fours are all. Assumes nothing.
use mathlib.Core.Path.{◌≡◌, refl, sym, subst, subst₂, ap, ◌∙◌, fun_ext}
use mathlib.Core.Bool.{Bool, true, false, not, ◌&&◌}
use mathlib.Core.List.{List}
use Prim.Native.Nat.{ℕ, ◌+◌, ◌<◌}
use native.Mathlib.Decide.{ℕ_discrete}
use lib.Dec.{T, eqb, ltb, lt→ltb}
use lib.ListN.{length, get_or, length-set}
use borrow.Author.Tests.{eq-eqb}
use Rattle.rules.specs.Numbers.{colour_no, is_black, opponent_of}
use Rattle.rules.specs.Tools.{any_below}
use Rattle.rules.specs.Line.{Stones, scores, among, no_stone, empty_at, is_eye, eye_of_some}
use Rattle.rules.specs.Point.{line_no, cell_no, line_count, line_size}
use Rattle.rules.specs.Grid.{is_empty, put, stone_at, row_on, rows_through, four_eye}
use Rattle.rules.specs.declared.Player.{Player}
use Rattle.rules.specs.declared.RowKind.TheVariants.{Four}
use Rattle.rules.proofs.Logic.{true-T, along, false-not, and_left, and_right, and_intro, both_ways, any-elim}
use Rattle.rules.proofs.Logic.{any-intro}
use Rattle.rules.proofs.Address.{line-here, cell-here}
use Rattle.rules.proofs.Rows.{stone-here, start-lt}
use Rattle.rules.proofs.Changes.{stone-off}
use Rattle.hint.specs.Hint.{completes, is_four_eye, after_both}
use Rattle.hint.proofs.OneLine.{scores-apart}
use Rattle.hint.proofs.Stone.{Completes, completes-elim, completes-intro, four-scores, cell-none, own-there, own_same, others}
use Rattle.hint.proofs.Stone.{empty-none, in_window, still-empty, other-no, no-completing-by, eye-elim, eye-completes}

module _ (r : Player) (cells : List ℕ) (e : ℕ) (long : length cells ≡ 225) (he : e < 225) (none : T (is_empty (get_or cells e 0))) where
  -- a Four that does not hold the stone stood before it
  four-off : (d i j : ℕ) → d < 4 → i < line_count d → (line_no d e ≡ i → ⊥) → T (row_on r Four (put r cells e) d i j) → T (row_on r Four cells d i j)
  four-off d i j hd hi off t =
      along (sym (four-scores r cells d i j))
      (subst₂ (λ (a b : Stones). T (scores (is_black r) (line_size d i) a b 4 j))
      (fun_ext (stone-off r cells d i e (colour_no r) hd hi off)) (fun_ext (stone-off (opponent_of r) cells d i e (colour_no r) hd hi off))
      (along (four-scores r (put r cells e) d i j) t))

  four-apart : (d j : ℕ) → d < 4 → ((k : ℕ) → k < 5 → j + k ≡ cell_no d e → ⊥) → T (row_on r Four (put r cells e) d (line_no d e) j)
      → T (row_on r Four cells d (line_no d e) j)
  four-apart d j hd off t =
      along (sym (four-scores r cells d (line_no d e) j))
      (scores-apart (is_black r) (line_size d (line_no d e)) (stone_at r cells d (line_no d e)) (stone_at r (put r cells e) d (line_no d e))
      (stone_at (opponent_of r) cells d (line_no d e)) (cell_no d e) (cell-none cells e long he none r d hd) (own-there cells e long he none r d hd)
      (own_same cells e long he none r d hd) 4 j off
      (along
      (ap (λ (o : Stones). scores (is_black r) (line_size d (line_no d e)) (stone_at r (put r cells e) d (line_no d e)) o 4 j)
      (others cells e long he none r d hd)) (along (four-scores r (put r cells e) d (line_no d e) j) t)))

  -- one that does has its empty cell for an eye of a Four through the stone
  pub is-eye-of : (q d j : ℕ) → q < 225 → d < 4 → line_no d e ≡ line_no d q → T (is_empty (get_or (put r cells e) q 0)) → T (among 5 j (cell_no d e))
      → T (among 5 j (cell_no d q)) → T (row_on r Four (put r cells e) d (line_no d e) j) → T (is_four_eye r (put r cells e) e q)
  unfolding is_four_eye four_eye eye_of_some rows_through is_eye empty_at no_stone
  is-eye-of q d j hq hd on empty ae aq four =
      let board = put r cells e in
      let i = line_no d e in
      let c = cell_no d q in
      let own = stone_at r board d i in
      let other = stone_at (opponent_of r) board d i in
      let row : T (rows_through r Four board e d j) = and_intro (among 5 j (cell_no d e)) (row_on r Four board d i j) ae four in
      let free : (s : Player) → T (not (stone_at s board d i c)) =
      λ s. false-not (ap (λ (x : ℕ). stone_at s board d x c) on ∙ stone-here s board d q hd hq ∙ empty-none s (get_or board q 0) empty) in
      let eye : T (is_eye (line_size d i) own other Four j c) =
      and_intro (among 5 j c) (ltb c (line_size d i) && (not (own c) && not (other c))) aq
      (and_intro (ltb c (line_size d i)) (not (own c) && not (other c))
      (lt→ltb c (line_size d i) (subst (λ (x : ℕ). c < line_size d x) (sym on) (cell-here d q hd hq)))
      (and_intro (not (own c)) (not (other c)) (free r) (free (opponent_of r)))) in
      any-intro 4 (λ d. eqb (line_no d q) (line_no d e) && four_eye r board e d (cell_no d q)) d hd
      (and_intro (eqb (line_no d q) i) (four_eye r board e d c) (true-T (eq-eqb (line_no d q) i (sym on)))
      (any-intro 16 (λ j. rows_through r Four board e d j && is_eye (line_size d i) own other Four j c) j (start-lt r Four board e d j row)
      (and_intro (rows_through r Four board e d j) (is_eye (line_size d i) own other Four j c) row eye)))

  module _ (quiet : (q : ℕ) → q < 225 → T (completes r cells q) → ⊥) where
    pub by-the-stone : (q : ℕ) → q < 225 → T (completes r (put r cells e) q) → T (is_four_eye r (put r cells e) e q)
    unfolding rows_through
    by-the-stone q hq t = by-line (completes-elim r (put r cells e) q (length-set cells e (colour_no r) ∙ long) hq t)
      where
        board : List ℕ
        board = put r cells e

        before : (c : Completes r board q) → T (row_on r Four cells c.d (line_no c.d q) c.j) → ⊥
        before c was =
            let a = among 5 c.j (cell_no c.d q) in
            quiet q hq (completes-intro r cells q long hq
            (record {
              none = still-empty cells e long he none r q c.none;
              d = c.d;
              j = c.j;
              d-lt = c.d-lt;
              four = and_intro a (row_on r Four cells c.d (line_no c.d q) c.j)
                  (and_left a (row_on r Four board c.d (line_no c.d q) c.j) c.four) was;
            }))

        row : (c : Completes r board q) → T (row_on r Four board c.d (line_no c.d q) c.j)
        row c = and_right (among 5 c.j (cell_no c.d q)) (row_on r Four board c.d (line_no c.d q) c.j) c.four

        on_line : (c : Completes r board q) → line_no c.d e ≡ line_no c.d q → (b : Bool) → among 5 c.j (cell_no c.d e) ≡ b
            → T (is_four_eye r board e q)
        on_line c on true a =
            is-eye-of q c.d c.j hq c.d-lt on c.none (true-T a)
            (and_left (among 5 c.j (cell_no c.d q)) (row_on r Four board c.d (line_no c.d q) c.j) c.four)
            (subst (λ (x : ℕ). T (row_on r Four board c.d x c.j)) (sym on) (row c))
        on_line c on false a =
            absurd (before c (subst (λ (x : ℕ). T (row_on r Four cells c.d x c.j)) on
            (four-apart c.d c.j c.d-lt (λ k hk w. along a (in_window c.j (cell_no c.d e) k hk w))
            (subst (λ (x : ℕ). T (row_on r Four board c.d x c.j)) (sym on) (row c)))))

        at : (c : Completes r board q) → Dec (line_no c.d e ≡ line_no c.d q) → T (is_four_eye r board e q)
        at c (yes on) = on_line c on (among 5 c.j (cell_no c.d e)) refl
        at c (no off) =
            absurd (before c (four-off c.d (line_no c.d q) c.j c.d-lt (line-here c.d q c.d-lt hq) off (row c)))

        by-line : Completes r board q → T (is_four_eye r board e q)
        by-line c = at c (ℕ_discrete (line_no c.d e) (line_no c.d q))

    -- the test on the whole board is the test by the stone
    pub quiet-after : any_below 225 (completes r (put r cells e)) ≡ any_below 225 (is_four_eye r (put r cells e) e)
    quiet-after =
        both_ways (any_below 225 (completes r (put r cells e))) (any_below 225 (is_four_eye r (put r cells e) e))
        (λ t. let (q, hq, u) = any-elim 225 (completes r (put r cells e)) t in
        any-intro 225 (is_four_eye r (put r cells e) e) q hq (by-the-stone q hq u))
        (λ t. let (q, hq, u) = any-elim 225 (is_four_eye r (put r cells e) e) t in
        any-intro 225 (completes r (put r cells e)) q hq
        (eye-completes r (put r cells e) q (length-set cells e (colour_no r) ∙ long) hq (eye-elim r (put r cells e) e q u)))

-- after an attack at p and the reply at e, where before the attack the defender could complete nothing
pub quiet_next : (side : Player) (cells : List ℕ) (p e : ℕ) → length cells ≡ 225 → p < 225 → T (is_empty (get_or cells p 0)) → e < 225
    → T (is_empty (get_or (put side cells p) e 0)) → any_below 225 (completes (opponent_of side) cells) ≡ false
    → any_below 225 (completes (opponent_of side) (after_both side cells p e)) ≡ any_below 225 (is_four_eye (opponent_of side) (after_both side cells p e) e)
quiet_next side cells p e long hp np he ne quiet =
    quiet-after (opponent_of side) (put side cells p) e (length-set cells p (colour_no side) ∙ long) he ne
    (λ q hq t. along quiet
    (any-intro 225 (completes (opponent_of side) cells) q hq
    (no-completing-by cells p long hp np (opponent_of side) side (other-no side) q hq t)))
