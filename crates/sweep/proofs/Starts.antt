-- Windows and rows by the point where they start. Assumes nothing.
use mathlib.Core.Path.{◌≡◌, refl, sym, ap, ap₂, ◌∙◌, fun_ext}
use mathlib.Core.Logic.{◌⊎◌, inl, inr}
use mathlib.Core.Bool.{Bool, true, false, not, ◌&&◌, ◌||◌, and-true, and_assoc}
use mathlib.Core.List.{List}
use Prim.Native.Nat.{ℕ, suc, ◌+◌, ◌-◌, ◌^◌, ◌≤◌, ◌<◌}
use native.Mathlib.Nat.{add-zero}
use native.Mathlib.Omega.{arith}
use lib.Dec.{T, eqb, leb, ltb, ltb→lt}
use lib.ListN.{get_or}
use lib.Bits.{bit_and, bit_or, or_lt}
use lib.Pow.{ones_sub-lt}
use borrow.Author.Tests.{ltb-true, ltb-false}
use Rattle.rules.specs.Bit.{bit, mask_of}
use Rattle.rules.specs.Line.{Stones, inside, free, count, beside, dead, scores, holds, row_at}
use Rattle.rules.specs.Point.{code_of, line_no, cell_no, line_count, line_size, point_at}
use Rattle.rules.specs.declared.RowKind.TheVariants.{Two, Sword, Overlining}
use Rattle.rules.proofs.Logic.{decide, not-false, not-intro, and_same, same-leb}
use Rattle.rules.proofs.Tables.{table4, table5}
use Rattle.rules.proofs.Address.{line-here, point-lt, line-there, cell-there}
use Rattle.rules.proofs.Windows.{five, count-le, scored, held}
use Rattle.rules.proofs.Bits.{mask-cong}
use Rattle.masks.specs.Masks.{sum_at, Tallied}
use Rattle.masks.proofs.Windows.{open-bit, over-bit}
use Rattle.masks.proofs.Held.{holds-two, holds-three, holds-four}
use Rattle.sweep.specs.Marks.{on_board, row_mask, marks, is_marked, every_point, Says, along_line, marked_line, ahead_of, back_of}
use Rattle.sweep.specs.Marks.{scores_from, holds_from, Scored, pair_from, row_from}
use Rattle.sweep.proofs.Marks.{marked-at, marks-row, row-and, row-cong, says-or, says-not}

-- ---- marks along a line

pub along-marks : {m : List ℕ} (f : ℕ → Bool) → m ≡ marks f → (d i : ℕ) → d < 4 → i < line_count d
    → along_line (is_marked m) d i ≡ along_line f d i
unfolding along_line
along-marks f e d i hd hi =
    fun_ext (λ j. and_same (ltb j (line_size d i)) _ _
    (λ t. marked-at f e (point_at d i j) (point-lt d i j hd hi (ltb→lt j (line_size d i) t))))

-- no step
no_step : (f : ℕ → Bool) (d p : ℕ) → ahead_of f d 0 p ≡ marked_line f d p (cell_no d p)
unfolding ahead_of
no_step f d p = ap (marked_line f d p) (add-zero (cell_no d p))

-- what starts at each point, read along a line: it is what starts at each cell
module _ (d i : ℕ) (hd : d < 4) (hi : i < line_count d) (w : ℕ → ℕ → Bool) (inside : (j : ℕ) → T (w i j) → j < line_size d i) where
  along-here : along_line (λ q. w (line_no d q) (cell_no d q)) d i ≡ w i
  unfolding along_line
  along-here = fun_ext (λ j. go j (decide (ltb j (line_size d i))))
    where
      go : (j : ℕ) → (ltb j (line_size d i) ≡ true) ⊎ (ltb j (line_size d i) ≡ false)
          → (ltb j (line_size d i) && w (line_no d (point_at d i j)) (cell_no d (point_at d i j))) ≡ w i j
      go j (inl e) =
          let h = ltb-true j (line_size d i) e in
          rw e (ap₂ w (line-there d i j hd hi h) (cell-there d i j hd hi h))
      go j (inr e) =
          rw e (sym (not-false (not-intro (w i j) (λ t. let h = inside j t in omega (arith, ltb-false j (line_size d i) e)))))

  pub marks-along : {m : List ℕ} → m ≡ marks (λ q. w (line_no d q) (cell_no d q)) → along_line (is_marked m) d i ≡ w i
  marks-along e = along-marks (λ q. w (line_no d q) (cell_no d q)) e d i hd hi ∙ along-here

-- ---- windows

-- the window's last cell is on the line where the whole window is
every-line : (d i j : ℕ) → along_line every_point d i (j + 4) ≡ inside (line_size d i) j
unfolding along_line every_point inside
every-line d i j =
    and-true (ltb (j + 4) (line_size d i))
    ∙ same-leb (suc (j + 4)) (line_size d i) (j + 5) (line_size d i) (λ a. omega arith) (λ a. omega arith)

inside-here : {m : List ℕ} → m ≡ marks every_point → (d p : ℕ) → d < 4 → p < 225
    → ahead_of (is_marked m) d 4 p ≡ inside (line_size d (line_no d p)) (cell_no d p)
unfolding ahead_of
inside-here e d p hd hp =
    ap (λ (s : Stones). s (cell_no d p + 4)) (along-marks every_point e d (line_no d p) hd (line-here d p hd hp))
    ∙ every-line d (line_no d p) (cell_no d p)

-- "It is free for a colour when it has no stone of the other."
pub free-here : (f : ℕ → Bool) (d p : ℕ)
    → not ((((ahead_of f d 0 p || ahead_of f d 1 p) || ahead_of f d 2 p) || ahead_of f d 3 p) || ahead_of f d 4 p)
    ≡ free (marked_line f d p) (cell_no d p)
unfolding free ahead_of
free-here f d p =
    ap (λ (a : Bool). not (a || own 1 || own 2 || own 3 || own 4)) (no_step f d p)
    ∙ table5 (λ a b c e g. not (a || b || c || e || g)) (λ a b c e g. not a && not b && not c && not e && not g) tt
    (marked_line f d p (cell_no d p)) (own 1) (own 2) (own 3) (own 4)
  where
    own : ℕ → Bool
    own k = marked_line f d p (cell_no d p + k)

-- the window lies on its line and is free
abbrev pub room_from : (ℕ → Bool) → ℕ → ℕ → Bool
room_from w d p = inside (line_size d (line_no d p)) (cell_no d p) && free (marked_line w d p) (cell_no d p)

-- .. and no black stone stands just before it or just after it
abbrev pub alive_from : (ℕ → Bool) → (ℕ → Bool) → ℕ → ℕ → Bool
alive_from b w d p = room_from w d p && not (beside (marked_line b d p) (cell_no d p))

pub room_row : {whole : List ℕ} {a o : ℕ} (w : ℕ → Bool) (d i : ℕ) → d < 4 → whole ≡ marks every_point → i < 26 → a < 2 ^ 16 → o < 2 ^ 16
    → Says a i (ahead_of (is_marked whole) d 4) → Says o i (λ p. free (marked_line w d p) (cell_no d p))
    → bit_and (bit_and (get_or whole i 0) a) o ≡ row_mask (room_from w d) i
unfolding every_point
room_row w d i hd e hi ha ho sa so =
    row-and _ _ i ho (row-and every_point _ i ha (marks-row every_point e i hi) sa) so
    ∙ row-cong _ _ i (λ p hp. ap (λ (x : Bool). x && free (marked_line w d p) (cell_no d p)) (inside-here e d p hd hp))

module _ (b w : ℕ → Bool) (d i : ℕ) where
  pub alive-row : {m q a : ℕ} → m ≡ row_mask (room_from w d) i → q < 2 ^ 16 → a < 2 ^ 16 → Says q i (back_of b d 1) → Says a i (ahead_of b d 5)
      → bit_and m (65535 - bit_or q a) ≡ row_mask (alive_from b w d) i
  unfolding beside back_of ahead_of
  alive-row {m} {q} {a} e hq ha sq sa =
      row-and (room_from w d) _ i (ones_sub-lt 16 (bit_or q a)) e (says-not (or_lt 16 q a hq ha) (says-or sq sa))

  scores-here : (n p : ℕ) → (alive_from b w d p && eqb (count (marked_line b d p) (cell_no d p)) n) ≡ scores_from b w d n p
  unfolding scores_from scores dead
  scores-here n p =
      table4 (λ i f b e. ((i && f) && not b) && e) (λ i f b e. i && not (not f || true && b) && e) tt
      (inside (line_size d (line_no d p)) (cell_no d p)) (free (marked_line w d p) (cell_no d p)) (beside (marked_line b d p) (cell_no d p))
      (eqb (count (marked_line b d p) (cell_no d p)) n)

  holds-here : (n p : ℕ) → (room_from w d p && eqb (count (marked_line b d p) (cell_no d p)) n) ≡ holds_from b w d n p
  unfolding holds_from holds
  holds-here n p = refl

  -- the windows' cells, and how many of them have a black stone
  module _ {a0 a1 a2 a3 a4 : ℕ} (s0 : Says a0 i (ahead_of b d 0)) (s1 : Says a1 i (ahead_of b d 1)) (s2 : Says a2 i (ahead_of b d 2))
      (s3 : Says a3 i (ahead_of b d 3)) (s4 : Says a4 i (ahead_of b d 4)) where
    abbrev stones : ℕ → ℕ
    stones = sum_at a0 a1 a2 a3 a4

    stones-le : (x : ℕ) → stones x ≤ 5
    unfolding sum_at count
    stones-le x = count-le (five (bit a0 x) (bit a1 x) (bit a2 x) (bit a3 x) (bit a4 x)) 0

    stones-here : (x : ℕ) → T (on_board i x) → stones x ≡ count (marked_line b d (code_of x (i - 5))) (cell_no d (code_of x (i - 5)))
    unfolding sum_at count ahead_of
    stones-here x t = rw (s0.at x t, s1.at x t, s2.at x t, s3.at x t, s4.at x t, no_step b d (code_of x (i - 5)))

    counted : {m : ℕ} (pass test : ℕ → Bool) (n : ℕ)
        → m ≡ mask_of 16 (λ x. (on_board i x && pass (code_of x (i - 5))) && eqb (stones x) n)
        → ((p : ℕ) → (pass p && eqb (count (marked_line b d p) (cell_no d p)) n) ≡ test p) → m ≡ row_mask test i
    unfolding row_mask
    counted pass test n e same =
        e ∙ mask-cong 16 _ _
        (λ x h.
        let p = code_of x (i - 5) in
        and_assoc (on_board i x) (pass p) (eqb (stones x) n)
        ∙ and_same (on_board i x) _ _ (λ t. ap (λ (k : ℕ). pass p && eqb k n) (stones-here x t) ∙ same p))

    -- THE LAW: the windows that score, and those that hold
    pub scored-row : {room alive ones twos fours : ℕ} → room ≡ row_mask (room_from w d) i → alive ≡ row_mask (alive_from b w d) i
        → Tallied 16 (sum_at a0 a1 a2 a3 a4) ones twos fours
        → Scored (λ f. row_mask f i) b w d (bit_and (bit_and alive twos) (65535 - ones)) (bit_and (bit_and alive twos) ones)
        (bit_and (bit_and room fours) (65535 - ones))
    unfolding row_mask
    scored-row er ea t =
        record {
          twos = counted (alive_from b w d) _ 2 (holds-two 16 stones stones-le _ ea t) (scores-here 2);
          threes = counted (alive_from b w d) _ 3 (holds-three 16 stones stones-le _ ea t) (scores-here 3);
          fours = counted (room_from w d) _ 4 (holds-four 16 stones stones-le _ er t) (holds-here 4);
        }

-- ---- rows of three kinds, from the windows

-- "windows j−1 and j both"
module _ (d p : ℕ) (hd : d < 4) (hp : p < 225) (w : ℕ → ℕ → Bool) (inside : (j : ℕ) → T (w (line_no d p) j) → j < line_size d (line_no d p))
  where
    pair-here : {m : List ℕ} → m ≡ marks (λ q. w (line_no d q) (cell_no d q))
        → pair_from (is_marked m) d p ≡ (w (line_no d p) (cell_no d p) && (leb 1 (cell_no d p) && w (line_no d p) (cell_no d p - 1)))
    unfolding pair_from back_of
    pair-here e =
        ap₂ (λ (x : Bool) (s : Stones). x && (leb 1 (cell_no d p) && s (cell_no d p - 1)))
        (marked-at _ e p hp) (marks-along d (line_no d p) hd (line-here d p hd hp) w inside e)

module _ (b w : ℕ → Bool) (d : ℕ) (hd : d < 4) {s : List ℕ} where
  pub two-row : {m a : ℕ} (i : ℕ) → s ≡ marks (scores_from b w d 2) → m ≡ row_mask (pair_from (is_marked s) d) i → a < 2 ^ 16
      → Says a i (ahead_of b d 4) → bit_and m (65535 - a) ≡ row_mask (row_from b w Two d) i
  unfolding row_from row_at scores_from ahead_of
  two-row {m} {a} i e em ha sa =
      row-and _ _ i (ones_sub-lt 16 a) em (says-not ha sa)
      ∙ row-cong _ _ i
      (λ p hp.
      let n = line_size d (line_no d p) in
      ap (λ (x : Bool). x && not (marked_line b d p (cell_no d p + 4)))
      (pair-here d p hd hp (λ i j. scores true (line_size d i) (along_line b d i) (along_line w d i) 2 j)
      (λ j t. let f = scored true n (marked_line b d p) (marked_line w d p) 2 j t in omega (arith, f.fits)) e)
      ∙ open-bit true n (marked_line b d p) (marked_line w d p) 2 (cell_no d p))

  pub overlining-row : {m : ℕ} (i : ℕ) → s ≡ marks (holds_from b w d 4) → m ≡ row_mask (pair_from (is_marked s) d) i
      → m ≡ row_mask (row_from b w Overlining d) i
  unfolding row_from row_at holds_from
  overlining-row i e em =
      em
      ∙ row-cong _ _ i
      (λ p hp.
      let n = line_size d (line_no d p) in
      pair-here d p hd hp (λ i j. holds (line_size d i) (along_line b d i) (along_line w d i) 4 j)
      (λ j t. let f = held n (marked_line b d p) (marked_line w d p) 4 j t in omega (arith, f.fits)) e
      ∙ over-bit n (marked_line b d p) (marked_line w d p) 4 (cell_no d p))

  pub sword-rows : s ≡ marks (scores_from b w d 3) → s ≡ marks (row_from b w Sword d)
  unfolding row_from row_at scores_from
  sword-rows e = e
