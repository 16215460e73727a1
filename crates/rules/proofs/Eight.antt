-- THE EIGHT VIEWS: the verdict of a turned board at the turned point is the verdict of the board at the point. Assumes nothing.
use mathlib.Core.Path.{◌≡◌, refl, sym, subst, subst⁻¹, ap, ◌∙◌, fun_ext}
use mathlib.Core.Logic.{◌⊎◌, inl, inr}
use mathlib.Core.Bool.{Bool, false, ◌&&◌}
use mathlib.Core.List.{List}
use Prim.Native.Nat.{ℕ, zero, suc, ◌+◌, ◌-◌, ◌≤◌, ◌<◌}
use native.Mathlib.Omega.{arith}
use native.Mathlib.Decide.{ℕ_discrete, dec_lt}
use lib.Dec.{T, eqb, eqb→eq, eqb_refl}
use lib.ListN.{length, get_or, length-set}
use lib.Seq.{get_or-set_same, get_or-set_other}
use Rattle.rules.specs.Numbers.{colour_no, is_black, opponent_of}
use Rattle.rules.specs.Line.{Stones, row_at, span, through, among, is_eye}
use Rattle.rules.specs.Point.{line_no, cell_no, line_size, point_at}
use Rattle.rules.specs.Grid.{put, Starts, stone_at, row_on, eye_on, rows_through}
use Rattle.rules.specs.Forbidden.{Ask, some_row, more_than_one, good_eye, is_real, real_threes, with_black}
use Rattle.rules.specs.Forbidden.{is_overline, is_double_four, more_twos, is_double_three, plain_with}
use Rattle.rules.specs.Forbidden.{completes_five, strict_with, nested_n}
use Rattle.rules.specs.Views.{turn, undo}
use Rattle.rules.specs.declared.Player.{Player}
use Rattle.rules.specs.declared.Player.TheVariants.{Black}
use Rattle.rules.specs.declared.RowKind.{RowKind}
use Rattle.rules.specs.declared.RowKind.TheVariants.{Two, Three, Sword, Four, Overlining}
use Rattle.rules.specs.declared.Verdict.{Verdict}
use Rattle.rules.proofs.Logic.{and_left, and_right, and_intro, both_ways, any-elim, any-intro}
use Rattle.rules.proofs.Address.{point-lt, line-here, size-le}
use Rattle.rules.proofs.Turns.{turn_dir, flips, matched, turn-lt, turn-undo, turn-home, undo-lt, dir-lt, dir-undo, turn-size}
use Rattle.rules.proofs.Turns.{turn-cell, turn-point}
use Rattle.rules.proofs.Mirror.{Mirror, row_back, eye-back, among-back}
use Rattle.rules.proofs.More.{TwoApart, Carried, some_row-carried, more-carried}
use Rattle.rules.proofs.Windows.{span-le}
use Rattle.rules.proofs.Rows.{stone-in, stone-out, through-inside, start-lt, eye-inside}

-- B holds at each turned point what A holds at the point
pub record Turned (v : ℕ) (A B : List ℕ) : Type 0 where
  pub len_a : length A ≡ 225
  pub len_b : length B ≡ 225
  pub same : (p : ℕ) → p < 225 → get_or B (turn v p) 0 ≡ get_or A p 0

pub turned-back : {v : ℕ} {A B : List ℕ} → v < 8 → Turned v A B → Turned (undo v) B A
turned-back {v} {A} {B} hv t =
    record {
      len_a = t.len_b;
      len_b = t.len_a;
      same =
          λ q hq.
          sym (t.same (turn (undo v) q) (turn-lt (undo v) q (undo-lt v hv) hq))
          ∙ ap (λ (x : ℕ). get_or B x 0) (turn-home v q hv hq);
    }

pub turn_one : (v p q : ℕ) → v < 8 → p < 225 → q < 225 → turn v p ≡ turn v q → p ≡ q
turn_one v p q hv hp hq e = sym (turn-undo v p hv hp) ∙ ap (turn (undo v)) e ∙ turn-undo v q hv hq

-- a stone of the player's at the point and at the turned point
pub turned-put : (r : Player) {v : ℕ} {A B : List ℕ} (p : ℕ) → v < 8 → p < 225 → Turned v A B → Turned v (put r A p) (put r B (turn v p))
turned-put r {v} {A} {B} p hv hp t =
    record {
      len_a = length-set A p (colour_no r) ∙ t.len_a;
      len_b = length-set B (turn v p) (colour_no r) ∙ t.len_b;
      same = λ q hq. at q hq (ℕ_discrete q p);
    }
  where
    at : (q : ℕ) → q < 225 → Dec (q ≡ p) → get_or (put r B (turn v p)) (turn v q) 0 ≡ get_or (put r A p) q 0
    at q hq (yes e) =
        ap (λ (x : ℕ). get_or (put r B (turn v p)) (turn v x) 0) e
        ∙ get_or-set_same B (turn v p) (colour_no r) 0 (subst⁻¹ (λ (n : ℕ). turn v p < n) t.len_b (turn-lt v p hv hp))
        ∙ sym (get_or-set_same A p (colour_no r) 0 (subst⁻¹ (λ (n : ℕ). p < n) t.len_a hp))
        ∙ ap (λ (x : ℕ). get_or (put r A p) x 0) (sym e)
    at q hq (no ne) =
        get_or-set_other B (turn v p) (turn v q) (colour_no r) 0 (λ e. ne (turn_one v q p hv hq hp e))
        ∙ t.same q hq
        ∙ sym (get_or-set_other A p q (colour_no r) 0 ne)

-- ---- places j and s of a line of n cells, for things of w cells: the same, or across

abbrev pub Moved : ℕ → ℕ → ℕ → ℕ → ℕ → Type 0
Moved zero n w j s = j ≡ s
Moved (suc b) n w j s = j + s + w ≡ n

pub moved-matched : (b n j s : ℕ) → Moved b n 1 j s → T (matched b n j s)
unfolding matched
moved-matched zero n j s e = subst (λ (x : ℕ). T (eqb j x)) e (eqb_refl j)
moved-matched (suc b) n j s e = subst⁻¹ (λ (x : ℕ). T (eqb x n)) e (eqb_refl n)

matched-moved : (b n j s : ℕ) → T (matched b n j s) → Moved b n 1 j s
unfolding matched
matched-moved zero n j s t = eqb→eq j s t
matched-moved (suc b) n j s t = eqb→eq (j + s + 1) n t

pub moved-lt : (b n j s : ℕ) → Moved b n 1 j s → j < n → s < n
moved-lt zero n j s e h = subst (λ (x : ℕ). x < n) e h
moved-lt (suc b) n j s e h = omega arith

-- where a thing of w cells at j goes
pub move : (b n w j : ℕ) → j + w ≤ n → (s : ℕ) × Moved b n w j s
move zero n w j h = (j, refl)
move (suc b) n w j h = (n - w - j, omega arith)

-- two that are apart stay apart
moved_apart : (b n w j k s r : ℕ) → Moved b n w j s → Moved b n w k r → j + 2 ≤ k → (s + 2 ≤ r) ⊎ (r + 2 ≤ s)
moved_apart zero n w j k s r e e' h = inl (omega arith)
moved_apart (suc b) n w j k s r e e' h = inr (omega arith)

-- the line through p in direction d: its size, and the player's stones on it
abbrev pub size_at : ℕ → ℕ → ℕ
size_at d p = line_size d (line_no d p)

abbrev stones_at : Player → List ℕ → ℕ → ℕ → Stones
stones_at r cells p d = stone_at r cells d (line_no d p)

-- ---- lines, rows and eyes go where their cells go

module _ (v : ℕ) (A B : List ℕ) (p d : ℕ) (hv : v < 8) (t : Turned v A B) (hp : p < 225) (hd : d < 4) where
  stone-turn : (r : Player) (j s : ℕ) → j < size_at d p → Moved (flips v d) (size_at d p) 1 j s
      → stones_at r B (turn v p) (turn_dir v d) s ≡ stones_at r A p d j
  stone-turn r j s hj m =
      stone-in r B (turn_dir v d) (line_no (turn_dir v d) (turn v p)) s
      (subst⁻¹ (λ (n : ℕ). s < n) (turn-size v d p hv hd hp) (moved-lt (flips v d) (size_at d p) j s m hj))
      ∙ ap (λ (q : ℕ). eqb (get_or B q 0) (colour_no r)) (turn-point v d p hv hd hp j s hj (moved-matched (flips v d) (size_at d p) j s m))
      ∙ ap (λ (x : ℕ). eqb x (colour_no r)) (t.same (point_at d (line_no d p) j) (point-lt d (line_no d p) j hd (line-here d p hd hp) hj))
      ∙ sym (stone-in r A d (line_no d p) j hj)

  out-turn : (r : Player) (j : ℕ) → size_at d p ≤ j → stones_at r B (turn v p) (turn_dir v d) j ≡ false
  out-turn r j h = stone-out r B (turn_dir v d) (line_no (turn_dir v d) (turn v p)) j (subst⁻¹ (λ (n : ℕ). n ≤ j) (turn-size v d p hv hd hp) h)

  line_same : flips v d ≡ 0 → (r : Player) → stones_at r A p d ≡ stones_at r B (turn v p) (turn_dir v d)
  line_same z r = fun_ext (λ j. at j (dec_lt j (size_at d p)))
    where
      at : (j : ℕ) → Dec (j < size_at d p) → stones_at r A p d j ≡ stones_at r B (turn v p) (turn_dir v d) j
      at j (yes h) = sym (stone-turn r j j h (subst⁻¹ (λ (b : ℕ). Moved b (size_at d p) 1 j j) z refl))
      at j (no h) = stone-out r A d (line_no d p) j (omega arith) ∙ sym (out-turn r j (omega arith))

  line-mirror : (b : ℕ) → flips v d ≡ suc b → (r : Player)
      → Mirror (size_at d p) (stones_at r A p d) (stones_at r B (turn v p) (turn_dir v d))
  line-mirror b z r =
      record {
        across = λ j k e. stone-turn r j k (omega arith) (subst⁻¹ (λ (b : ℕ). Moved b (size_at d p) 1 j k) z e);
        left_out = λ j h. stone-out r A d (line_no d p) j h;
        right_out = out-turn r;
      }

  -- what holds of a line's cells and is kept by reading backwards holds of the turned line
  -- (P: of a line of n cells with the stones o and w, at some place; Q: the same at the place where it goes)
  line-turn : (r : Player) (P Q : ℕ → ℕ → Stones → Stones → Type 0)
      → ((n : ℕ) (o w : Stones) → P 0 n o w → Q 0 n o w)
      → ((b n : ℕ) (o w o' w' : Stones) → Mirror n o o' → Mirror n w w' → P (suc b) n o w → Q (suc b) n o' w')
      → P (flips v d) (size_at d p) (stones_at r A p d) (stones_at (opponent_of r) A p d)
      → Q (flips v d) (size_at (turn_dir v d) (turn v p)) (stones_at r B (turn v p) (turn_dir v d))
      (stones_at (opponent_of r) B (turn v p) (turn_dir v d))
  line-turn r P Q straight back x =
      subst⁻¹ (λ (n : ℕ). Q (flips v d) n (stones_at r B (turn v p) (turn_dir v d)) (stones_at (opponent_of r) B (turn v p) (turn_dir v d)))
      (turn-size v d p hv hd hp) (at (flips v d) refl x)
    where
      at : (b : ℕ) → flips v d ≡ b → P b (size_at d p) (stones_at r A p d) (stones_at (opponent_of r) A p d)
          → Q b (size_at d p) (stones_at r B (turn v p) (turn_dir v d)) (stones_at (opponent_of r) B (turn v p) (turn_dir v d))
      at zero z y =
          subst (λ (o : Stones). Q 0 (size_at d p) o (stones_at (opponent_of r) B (turn v p) (turn_dir v d))) (line_same z r)
          (subst (λ (w : Stones). Q 0 (size_at d p) (stones_at r A p d) w) (line_same z (opponent_of r))
          (straight (size_at d p) (stones_at r A p d) (stones_at (opponent_of r) A p d) y))
      at (suc b) z y =
          back b (size_at d p) (stones_at r A p d) (stones_at (opponent_of r) A p d)
          (stones_at r B (turn v p) (turn_dir v d)) (stones_at (opponent_of r) B (turn v p) (turn_dir v d))
          (line-mirror b z r) (line-mirror b z (opponent_of r)) y

  row-turn : (r : Player) (k : RowKind) (j s : ℕ) → Moved (flips v d) (size_at d p) (span k) j s
      → T (row_on r k A d (line_no d p) j) → T (row_on r k B (turn_dir v d) (line_no (turn_dir v d) (turn v p)) s)
  unfolding row_on
  row-turn r k j s m u =
      line-turn r (λ b n o w. Moved b n (span k) j s × T (row_at (is_black r) n o w k j)) (λ b n o w. T (row_at (is_black r) n o w k s))
      (λ n o w x. subst (λ (i : ℕ). T (row_at (is_black r) n o w k i)) x.0 x.1)
      (λ b n o w o' w' mo mw x. row_back (is_black r) n o w o' w' mo mw k j s x.0 x.1)
      (m, u)

  pub eye-turn : (r : Player) (j s e h : ℕ) → Moved (flips v d) (size_at d p) 4 j s → Moved (flips v d) (size_at d p) 1 e h
      → T (eye_on r Three A d (line_no d p) j e) → T (eye_on r Three B (turn_dir v d) (line_no (turn_dir v d) (turn v p)) s h)
  unfolding eye_on
  eye-turn r j s e h m m' u =
      line-turn r (λ b n o w. Moved b n 4 j s × Moved b n 1 e h × T (is_eye n o w Three j e)) (λ b n o w. T (is_eye n o w Three s h))
      (λ n o w x. subst (λ (i : ℕ). T (is_eye n o w Three s i)) x.1 (subst (λ (i : ℕ). T (is_eye n o w Three i e)) x.0 x.2))
      (λ b n o w o' w' mo mw x. eye-back (is_black r) n o w o' w' mo mw Three j s e h x.0 x.1 x.2)
      (m, m', u)

  pub through-turn : (r : Player) (k : RowKind) (j s : ℕ) → Moved (flips v d) (size_at d p) (span k) j s
      → T (rows_through r k A p d j) → T (rows_through r k B (turn v p) (turn_dir v d) s)
  unfolding rows_through
  through-turn r k j s m u =
      and_intro (through k (cell_no (turn_dir v d) (turn v p)) s) (row_on r k B (turn_dir v d) (line_no (turn_dir v d) (turn v p)) s)
      (at (flips v d) m (matched-moved (flips v d) (size_at d p) (cell_no d p) (cell_no (turn_dir v d) (turn v p)) (turn-cell v d p hv hd hp))
      (and_left (through k (cell_no d p) j) (row_on r k A d (line_no d p) j) u))
      (row-turn r k j s m (and_right (through k (cell_no d p) j) (row_on r k A d (line_no d p) j) u))
    where
      at : (b : ℕ) → Moved b (size_at d p) (span k) j s → Moved b (size_at d p) 1 (cell_no d p) (cell_no (turn_dir v d) (turn v p))
          → T (among (span k) j (cell_no d p)) → T (among (span k) s (cell_no (turn_dir v d) (turn v p)))
      at zero m c u = subst (λ (i : ℕ). T (among (span k) s i)) c (subst (λ (i : ℕ). T (among (span k) i (cell_no d p))) m u)
      at (suc b) m c u = among-back (span k) (size_at d p) j s (cell_no d p) (cell_no (turn_dir v d) (turn v p)) m c u

-- ---- starts that are rows of one kind of a player's, carried by a view

module _ (v : ℕ) (A B : List ℕ) (p : ℕ) (hv : v < 8) (t : Turned v A B) (hp : p < 225) (who : Player) (k : RowKind)
    (s s' : Starts)
    (are : (d j : ℕ) → d < 4 → T (s d j) → T (rows_through who k A p d j))
    (are' : (d j : ℕ) → d < 4 → T (s' d j) → T (rows_through who k B (turn v p) d j))
    (moves : (d j r : ℕ) → d < 4 → Moved (flips v d) (size_at d p) (span k) j r → T (s d j) → T (s' (turn_dir v d) r))
  where
    lands : (d r : ℕ) → d < 4 → T (s' (turn_dir v d) r) → r < 16
    lands d r hd u =
        start-lt who k B (turn v p) (turn_dir v d) r (are' (turn_dir v d) r (dir-lt v d hv hd) u)

    goes : (d j : ℕ) → d < 4 → T (s d j) → (r : ℕ) × Moved (flips v d) (size_at d p) (span k) j r
    goes d j hd u =
        let f = through-inside who k A p d j (are d j hd u) in
        let l = span-le k in
        move (flips v d) (size_at d p) (span k) j (omega arith)

    both_go : (d : ℕ) → d < 4 → TwoApart (s d) → TwoApart (s' (turn_dir v d))
    both_go d hd w =
        let a = goes d w.j hd w.here in
        let b = goes d w.k hd w.there in
        let x = moves d w.j a.0 hd a.1 w.here in
        let y = moves d w.k b.0 hd b.1 w.there in
        at a.0 b.0 x y (moved_apart (flips v d) (size_at d p) (span k) w.j w.k a.0 b.0 a.1 b.1 w.far)
      where
        at : (r q : ℕ) → T (s' (turn_dir v d) r) → T (s' (turn_dir v d) q) → (r + 2 ≤ q) ⊎ (q + 2 ≤ r) → TwoApart (s' (turn_dir v d))
        at r q x y (inl h) = record { j = r; k = q; far = h; k_lt = lands d q hd y; here = x; there = y }
        at r q x y (inr h) = record { j = q; k = r; far = h; k_lt = lands d r hd x; here = y; there = x }

    pub carried : Carried s s'
    carried =
        record {
          to = turn_dir v;
          to-lt = λ d hd. dir-lt v d hv hd;
          to_one = λ d e hd he q. sym (dir-undo v d hv hd) ∙ ap (turn_dir (undo v)) q ∙ dir-undo v e hv he;
          row =
              λ d j hd hj u.
              let a = goes d j hd u in
              let x = moves d j a.0 hd a.1 u in
              (a.0, lands d a.0 hd x, x);
          rows = both_go;
        }

-- a question that does not see which view the board is in
abbrev pub Blind : {A : Type 0} → Ask A → Type 0
Blind ask = (v : ℕ) (A B : List ℕ) (p : ℕ) → v < 8 → Turned v A B → p < 225 → ask B (turn v p) ≡ ask A p

-- a test that passes in every view where it passes in one
abbrev pub Kept : Ask Bool → Type 0
Kept P = (v : ℕ) (A B : List ℕ) (p : ℕ) → v < 8 → Turned v A B → p < 225 → T (P A p) → T (P B (turn v p))

-- what each view keeps, no view changes: go back by the undoing view
pub kept-eq : (P : Ask Bool) → Kept P → Blind P
kept-eq P k v A B p hv t hp =
    both_ways (P B (turn v p)) (P A p)
    (λ u. subst (λ (q : ℕ). T (P A q)) (turn-undo v p hv hp) (k (undo v) B A (turn v p) (undo-lt v hv) (turned-back hv t)
    (turn-lt v p hv hp) u))
    (k v A B p hv t hp)

pub rows-carried : (who : Player) (k : RowKind) (v : ℕ) (A B : List ℕ) (p : ℕ) → v < 8 → Turned v A B → p < 225
    → Carried (rows_through who k A p) (rows_through who k B (turn v p))
rows-carried who k v A B p hv t hp =
    carried v A B p hv t hp who k (rows_through who k A p) (rows_through who k B (turn v p)) (λ d j hd u. u) (λ d j hd u. u)
    (λ d j r hd m u. through-turn v A B p d hv t hp hd who k j r m u)

-- some row of the kind goes through the point
pub row_kept : (who : Player) (k : RowKind) → Kept (λ cells p. some_row (rows_through who k cells p))
row_kept who k v A B p hv t hp u =
    some_row-carried (rows_through who k A p) (rows_through who k B (turn v p)) (rows-carried who k v A B p hv t hp) u

-- .. and more than one Two
pub twos-kept : Kept more_twos
twos-kept v A B p hv t hp u = more-carried (rows_through Black Two A p) (rows_through Black Two B (turn v p))
    (rows-carried Black Two v A B p hv t hp) u

pub overline-kept : Kept is_overline
unfolding is_overline
overline-kept = row_kept Black Overlining

pub five-kept : Kept completes_five
unfolding completes_five
five-kept = row_kept Black Four

pub double-four-kept : Kept is_double_four
unfolding is_double_four
double-four-kept v A B p hv t hp u = more-carried (rows_through Black Sword A p) (rows_through Black Sword B (turn v p))
    (rows-carried Black Sword v A B p hv t hp) u

eye-kept : (ask : Ask Verdict) → Blind ask → Kept (good_eye ask)
unfolding good_eye
eye-kept ask blind v A B p hv t hp u =
    rw (kept-eq completes_five five-kept v A B p hv t hp, blind v A B p hv t hp) u

module _ (ask : Ask Verdict) (blind : Blind ask) (v : ℕ) (A B : List ℕ) (p : ℕ) (hv : v < 8) (t : Turned v A B) (hp : p < 225) where
  real-turn : (d j s : ℕ) → d < 4 → Moved (flips v d) (size_at d p) 4 j s → T (is_real ask A p d j)
      → T (is_real ask B (turn v p) (turn_dir v d) s)
  unfolding is_real
  real-turn d j s hd m u =
      let i = line_no d p in
      let d' = turn_dir v d in
      let i' = line_no d' (turn v p) in
      let a = any-elim 16 (λ e. eye_on Black Three A d i j e && good_eye ask A (point_at d i e)) u in
      let e = a.0 in
      let ue = and_left (eye_on Black Three A d i j e) (good_eye ask A (point_at d i e)) a.2 in
      let he = eye-inside Black Three A d i j e ue in
      let z = move (flips v d) (line_size d i) 1 e (omega arith) in
      let h = z.0 in
      let hh = moved-lt (flips v d) (line_size d i) e h z.1 he in
      let ep = turn-point v d p hv hd hp e h he (moved-matched (flips v d) (line_size d i) e h z.1) in
      any-intro 16 (λ e. eye_on Black Three B d' i' s e && good_eye ask B (point_at d' i' e)) h (omega (arith, size-le d (line_no d p), hh))
      (and_intro (eye_on Black Three B d' i' s h) (good_eye ask B (point_at d' i' h))
      (eye-turn v A B p d hv t hp hd Black j s e h m z.1 ue)
      (subst⁻¹ (λ (x : ℕ). T (good_eye ask B x)) ep
      (eye-kept ask blind v A B (point_at d i e) hv t (point-lt d i e hd (line-here d p hd hp) he)
      (and_right (eye_on Black Three A d i j e) (good_eye ask A (point_at d i e)) a.2))))

  real-carried : Carried (real_threes ask A p) (real_threes ask B (turn v p))
  unfolding real_threes
  real-carried =
      carried v A B p hv t hp Black Three (real_threes ask A p) (real_threes ask B (turn v p))
      (λ d j hd u. and_left (rows_through Black Three A p d j) (is_real ask A p d j) u)
      (λ d j hd u. and_left (rows_through Black Three B (turn v p) d j) (is_real ask B (turn v p) d j) u)
      (λ d j r hd m u.
      and_intro (rows_through Black Three B (turn v p) (turn_dir v d) r) (is_real ask B (turn v p) (turn_dir v d) r)
      (through-turn v A B p d hv t hp hd Black Three j r m (and_left (rows_through Black Three A p d j) (is_real ask A p d j) u))
      (real-turn d j r hd m (and_right (rows_through Black Three A p d j) (is_real ask A p d j) u)))

pub double-three-kept : (ask : Ask Verdict) → Blind ask → Kept (is_double_three ask)
unfolding is_double_three
double-three-kept ask blind v A B p hv t hp u =
    and_intro (more_than_one (rows_through Black Two B (turn v p))) (more_than_one (real_threes ask (with_black B (turn v p)) (turn v p)))
    (twos-kept v A B p hv t hp
    (and_left (more_than_one (rows_through Black Two A p)) (more_than_one (real_threes ask (with_black A p) p)) u))
    (more-carried (real_threes ask (with_black A p) p) (real_threes ask (with_black B (turn v p)) (turn v p))
    (real-carried ask blind v (with_black A p) (with_black B (turn v p)) p hv (turned-put Black p hv hp t) hp)
    (and_right (more_than_one (rows_through Black Two A p)) (more_than_one (real_threes ask (with_black A p) p)) u))

pub plain-blind : (ask : Ask Verdict) → Blind ask → Blind (plain_with ask)
unfolding plain_with
plain-blind ask blind v A B p hv t hp =
    rw (
      kept-eq is_overline overline-kept v A B p hv t hp,
      kept-eq is_double_four double-four-kept v A B p hv t hp,
      kept-eq (is_double_three ask)
          (double-three-kept ask blind) v A B p hv t hp,
    )

pub strict-with-blind : (ask : Ask Verdict) → Blind ask → Blind (strict_with ask)
unfolding strict_with
strict-with-blind ask blind v A B p hv t hp =
    rw (t.same p hp, kept-eq completes_five five-kept v A B p hv t hp, plain-blind ask blind v A B p hv t hp)

-- a question that asks itself is blind at every depth where one step of it is
pub nested-blind : {A : Type 0} (rest : A) (step : Ask A → Ask A) → ((ask : Ask A) → Blind ask → Blind (step ask))
    → (n : ℕ) → Blind (nested_n rest step n)
unfolding nested_n
nested-blind rest step each zero v A B p hv t hp = refl
nested-blind rest step each (suc n) v A B p hv t hp =
    each (nested_n rest step n) (nested-blind rest step each n) v A B p hv t hp
