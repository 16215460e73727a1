-- Marks: what they say of each point, masks that say something of a row's points, and marks written mask by mask, and code by code.
-- Assumes nothing.
use mathlib.Core.Path.{◌≡◌, refl, sym, ap, ap₂, ◌∙◌, subst}
use mathlib.Core.Bool.{Bool, true, false, not, ◌&&◌, ◌||◌, cond, and-true, and-false, or-false}
use mathlib.Core.Logic.{◌⊎◌, inl, inr}
use mathlib.Core.List.{List}
use Prim.Native.Nat.{ℕ, ◌+◌, ◌-◌, ◌^◌, ◌≤◌, ◌<◌}
use native.Mathlib.Omega.{arith}
use native.Mathlib.Decide.{ℕ_discrete}
use lib.Dec.{T, eqb, eqb→eq, lit<, leb, ltb, leb→le, le→leb, ltb→lt, lt→ltb}
use lib.ListN.{length, get_or, set, length-set}
use lib.Seq.{get_or-set_same, get_or-set_other}
use lib.Bits.{bit_and, bit_or, and_lt}
use borrow.Author.Tests.{le-leb, lt-ltb, le-ltb, ltb-true, ltb-false, eq-eqb, ne_eqb}
use Rattle.rules.specs.Tools.{any_below}
use Rattle.rules.specs.Bit.{bit, mask_of}
use Rattle.rules.specs.Point.{x_of, y_of, code_of}
use Rattle.rules.proofs.Logic.{decide, both_ways, true-T, not-false, false-not, not-intro, not-elim, and_left, and_right, and_intro}
use Rattle.rules.proofs.Logic.{T_true, any-intro, along, and-flip, and_same}
use Rattle.masks.proofs.Windows.{and-on, and-off}
use Rattle.rules.proofs.Address.{x-of-code, y-of-code, code-of-xy}
use Rattle.rules.proofs.Bits.{bit-and, bit-or, bit_not, bit-ones, bit_mask, bits_of, mask-ext, mask-cong, mask_lt, mask-none, mask-or}
use Rattle.rules.proofs.Lists.{length-tab, get_d-tab, is-tab, tab-cong}
use Rattle.lent.specs.Lists.{zeros}
use Rattle.lent.proofs.Laws.{length-zeros, zeros-at}
use Rattle.sweep.specs.Marks.{on_board, row_mask, marks, is_marked, Marked, every_point, codes_below, Says}
use Rattle.cells.proofs.Filled.{filled, filled_none, filled-skip, filled_more}

-- ---- the points of the board

pub record OnBoard (i x : ℕ) : Type 0 where
  pub low : 5 ≤ i
  pub high : i < 20
  pub column : x < 15

pub on-elim : (i x : ℕ) → T (on_board i x) → OnBoard i x
unfolding on_board
on-elim i x t =
    let rows = and_left (leb 5 i && ltb i 20) (ltb x 15) t in
    record {
      low = leb→le 5 i (and_left (leb 5 i) (ltb i 20) rows);
      high = ltb→lt i 20 (and_right (leb 5 i) (ltb i 20) rows);
      column = ltb→lt x 15 (and_right (leb 5 i && ltb i 20) (ltb x 15) t);
    }

pub on-intro : (i x : ℕ) → 5 ≤ i → i < 20 → x < 15 → T (on_board i x)
unfolding on_board
on-intro i x l h c =
    and_intro (leb 5 i && ltb i 20) (ltb x 15) (and_intro (leb 5 i) (ltb i 20) (le→leb 5 i l) (lt→ltb i 20 h)) (lt→ltb x 15 c)

-- a point's code, and back from it
pub on-code : (i x : ℕ) → T (on_board i x) → code_of x (i - 5) < 225
on-code i x t = let b = on-elim i x t in omega (arith, b.low, b.high, b.column)

pub on-point : (p : ℕ) → p < 225 → T (on_board (y_of p + 5) (x_of p))
on-point p h = on-intro (y_of p + 5) (x_of p) (omega arith) (omega arith) (omega arith)

-- off the board
off-low : (i x : ℕ) → i < 5 → on_board i x ≡ false
off-low i x h = not-false (not-intro (on_board i x) (λ t. omega (arith, (on-elim i x t).low)))

off-high : (i x : ℕ) → 20 ≤ i → on_board i x ≡ false
off-high i x h = not-false (not-intro (on_board i x) (λ t. omega (arith, (on-elim i x t).high)))

off-column : (i x : ℕ) → 15 ≤ x → on_board i x ≡ false
off-column i x h = not-false (not-intro (on_board i x) (λ t. omega (arith, (on-elim i x t).column)))

-- ---- what marks say

-- bit x of mask i of the marks, at every x
pub row-bit : (f : ℕ → Bool) (i x : ℕ) → bit (row_mask f i) x ≡ (on_board i x && f (code_of x (i - 5)))
unfolding row_mask
row-bit f i x =
    ap (λ (g : ℕ → Bool). g x)
    (bits_of 16 (λ x. on_board i x && f (code_of x (i - 5))) (λ j h. sym (and-off (on_board i j) _ (off-column i j (omega arith)))))

pub marks-row : {m : List ℕ} (f : ℕ → Bool) → m ≡ marks f → (i : ℕ) → i < 26 → get_or m i 0 ≡ row_mask f i
unfolding marks
marks-row f e i h = ap (λ (l : List ℕ). get_or l i 0) e ∙ get_d-tab 26 (row_mask f) i h

pub marks-fit : {m : List ℕ} (f : ℕ → Bool) → m ≡ marks f → (i : ℕ) → i < 26 → get_or m i 0 < 2 ^ 16
unfolding row_mask
marks-fit f e i h = subst (λ (n : ℕ). n < 2 ^ 16) (sym (marks-row f e i h)) (mask_lt 16 _)

pub marks-bit : (f : ℕ → Bool) (i x : ℕ) → i < 26 → bit (get_or (marks f) i 0) x ≡ (on_board i x && f (code_of x (i - 5)))
marks-bit f i x h = ap (λ (m : ℕ). bit m x) (marks-row f refl i h) ∙ row-bit f i x

-- THE LAW: a point is marked where it passes the test
pub mark-at : (f : ℕ → Bool) (p : ℕ) → p < 225 → bit (get_or (marks f) (y_of p + 5) 0) (x_of p) ≡ f p
mark-at f p h =
    let y : y_of p + 5 - 5 ≡ y_of p = omega arith in
    marks-bit f (y_of p + 5) (x_of p) (omega arith) ∙ sym (and-on (on_board (y_of p + 5) (x_of p)) _ (T_true (on-point p h)))
    ∙ ap (λ (n : ℕ). f (code_of (x_of p) n)) y ∙ ap f (code-of-xy p)

pub marked-at : {m : List ℕ} (f : ℕ → Bool) → m ≡ marks f → (p : ℕ) → p < 225 → is_marked m p ≡ f p
unfolding is_marked
marked-at f e p h = ap (λ (l : List ℕ). is_marked l p) e ∙ mark-at f p h

-- no point of a column without marks passes
pub column-none : (f : ℕ → Bool) (p : ℕ) → p < 225 → any_below 26 (λ i. bit (get_or (marks f) i 0) (x_of p)) ≡ false → f p ≡ false
column-none f p h e =
    not-false (not-intro (f p)
    (λ t. not-elim (any_below 26 here) (false-not e) (any-intro 26 here (y_of p + 5) (omega arith) (along (sym (mark-at f p h)) t))))
  where
    here : ℕ → Bool
    here i = bit (get_or (marks f) i 0) (x_of p)

-- marks look at the points of the board only
pub row-cong : (f g : ℕ → Bool) (i : ℕ) → ((p : ℕ) → p < 225 → f p ≡ g p) → row_mask f i ≡ row_mask g i
unfolding row_mask
row-cong f g i e = mask-cong 16 _ _ (λ x h. and_same (on_board i x) _ _ (λ t. e (code_of x (i - 5)) (on-code i x t)))

pub marks-cong : (f g : ℕ → Bool) → ((p : ℕ) → p < 225 → f p ≡ g p) → marks f ≡ marks g
unfolding marks
marks-cong f g e = tab-cong 26 (row_mask f) (row_mask g) (λ i h. row-cong f g i e)

-- they have no mark off the board
pub marks-marked : (f : ℕ → Bool) → Marked (marks f)
marks-marked f = record { whole = marks-cong f (is_marked (marks f)) (λ p h. sym (marked-at f refl p h)) }

pub as-marked : {m : List ℕ} (f : ℕ → Bool) → m ≡ marks f → Marked m
as-marked f e = subst Marked (sym e) (marks-marked f)

-- ---- masks that say something of the points of a row

pub says-as : {m i : ℕ} (f g : ℕ → Bool) → ((p : ℕ) → p < 225 → f p ≡ g p) → Says m i f → Says m i g
says-as {m} {i} f g e s = record { at = λ x t. s.at x t ∙ e (code_of x (i - 5)) (on-code i x t) }

-- all bits or none say the same of every point
pub says_all : {m : ℕ} (b : Bool) (i : ℕ) → m ≡ mask_of 16 (λ x. b) → Says m i (λ p. b)
says_all b i e =
    record { at = λ x t. ap (λ (n : ℕ). bit n x) e ∙ bit_mask 16 (λ x. b) x (let o = on-elim i x t in omega (arith, o.column)) }

pub says-and : {m n i : ℕ} {f g : ℕ → Bool} → Says m i f → Says n i g → Says (bit_and m n) i (λ p. f p && g p)
says-and {m} {n} s t = record { at = λ x b. bit-and m n x ∙ ap₂ (λ (a c : Bool). a && c) (s.at x b) (t.at x b) }

pub says-or : {m n i : ℕ} {f g : ℕ → Bool} → Says m i f → Says n i g → Says (bit_or m n) i (λ p. f p || g p)
says-or {m} {n} s t = record { at = λ x b. bit-or m n x ∙ ap₂ (λ (a c : Bool). a || c) (s.at x b) (t.at x b) }

pub says-not : {m i : ℕ} {f : ℕ → Bool} → m < 2 ^ 16 → Says m i f → Says (65535 - m) i (λ p. not (f p))
says-not {m} {i} h s =
    record { at = λ x b. bit_not m 16 x h (let o = on-elim i x b in omega (arith, o.column)) ∙ ap not (s.at x b) }

-- any list of masks says which points it marks
pub says-mask : (m : List ℕ) (i : ℕ) → Says (get_or m i 0) i (is_marked m)
unfolding is_marked
says-mask m i =
    record {
      at = λ x b.
          let o = on-elim i x b in
          let y : y_of (code_of x (i - 5)) ≡ i - 5 = y-of-code x (i - 5) (omega (arith, o.high)) in
          ap₂ (λ (r c : ℕ). bit (get_or m r 0) c) (omega (arith, o.low, y)) (sym (x-of-code x (i - 5) (omega (arith, o.high))));
    }

-- a mask of the marks, with what another says of its points
pub row-and : {m n : ℕ} (f g : ℕ → Bool) (i : ℕ) → n < 2 ^ 16 → m ≡ row_mask f i → Says n i g → bit_and m n ≡ row_mask (λ p. f p && g p) i
unfolding row_mask
row-and {m} {n} f g i h e s =
    ap (λ (a : ℕ). bit_and a n) e
    ∙ mask-ext 16 (bit_and (row_mask f i) n) _ (and_lt 16 (row_mask f i) n (mask_lt 16 _) h)
    (λ x k. bit-and (row_mask f i) n x ∙ ap (λ (a : Bool). a && bit n x) (row-bit f i x)
    ∙ both (on_board i x) (f (code_of x (i - 5))) (s.at x))
  where
    both : (b u : Bool) {v w : Bool} → (T b → w ≡ v) → ((b && u) && w) ≡ (b && (u && v))
    both true u e = ap (λ (a : Bool). u && a) (e tt)
    both false u e = refl

-- ---- marks written mask by mask, from the board's first row on

row-none : (f : ℕ → Bool) (i : ℕ) → ((x : ℕ) → on_board i x ≡ false) → row_mask f i ≡ 0
unfolding row_mask
row-none f i e = mask-none 16 _ (λ x h. sym (and-off (on_board i x) _ (e x)))

pub rows_start : (f : ℕ → Bool) → zeros 26 ≡ filled 26 (row_mask f) 5
rows_start f =
    filled_none 26 (row_mask f) ∙ skip 0 (omega arith) ∙ skip 1 (omega arith) ∙ skip 2 (omega arith) ∙ skip 3 (omega arith)
    ∙ skip 4 (omega arith)
  where
    skip : (i : ℕ) → i < 5 → filled 26 (row_mask f) i ≡ filled 26 (row_mask f) (i + 1)
    skip i h = filled-skip 26 (row_mask f) i (omega arith) (row-none f i (λ x. off-low i x h))

pub rows_more : {m : ℕ} {l : List ℕ} (f : ℕ → Bool) (i : ℕ) → i < 26 → l ≡ filled 26 (row_mask f) i → m ≡ row_mask f i
    → set l i m ≡ filled 26 (row_mask f) (i + 1)
rows_more f i h e r = ap₂ (λ (a : List ℕ) (b : ℕ). set a i b) e r ∙ filled_more 26 (row_mask f) i h

pub rows_end : {l : List ℕ} (f : ℕ → Bool) (i : ℕ) → 20 ≤ i → i ≤ 21 → l ≡ filled 26 (row_mask f) i → l ≡ marks f
unfolding marks filled
rows_end f i g h e =
    e ∙ tab-cong 26 _ (row_mask f) (λ c k. last c (ltb c i) refl)
  where
    last : (c : ℕ) (b : Bool) → ltb c i ≡ b → cond b (row_mask f c) 0 ≡ row_mask f c
    last c true e = refl
    last c false e = sym (row-none f c (λ x. off-high c x (omega (arith, ltb-false c i e))))

-- a whole row of the board
pub full-row : (i : ℕ) → 5 ≤ i → i < 20 → 32767 ≡ row_mask every_point i
unfolding every_point on_board row_mask
full-row i l h =
    mask-ext 16 32767 _ (lit< tt)
    (λ x k. bit-ones 15 x ∙ sym (rw (le-leb 5 i l, lt-ltb i 20 h) (and-true (ltb x 15))))

-- ---- marks written code by code

-- the next code is marked, or not
codes-more : (f : ℕ → Bool) (n q : ℕ) → (codes_below n f q || eqb q n && f n) ≡ codes_below (n + 1) f q
unfolding codes_below
codes-more f n q = go (ℕ_discrete q n) (decide (ltb q n))
  where
    go : Dec (q ≡ n) → (ltb q n ≡ true) ⊎ (ltb q n ≡ false) → (ltb q n && f q || eqb q n && f n) ≡ (ltb q (n + 1) && f q)
    go (yes e) u = rw (le-ltb q n (omega arith), eq-eqb q n e, lt-ltb q (n + 1) (omega arith)) (ap f (sym e))
    go (no e) (inl u) = let h = ltb-true q n u in rw (u, ne_eqb q n e, lt-ltb q (n + 1) (omega arith)) (or-false (f q))
    go (no e) (inr u) = let h = ltb-false q n u in rw (u, ne_eqb q n e, le-ltb q (n + 1) (omega (arith, e)))

-- the mark of the point (x, y) is one bit of one mask
module _ (x y : ℕ) (hx : x < 15) (hy : y < 15) where
  code_at : (i j : ℕ) → T (on_board i j) → (eqb i (y + 5) && eqb j x) ≡ eqb (code_of j (i - 5)) (code_of x y)
  code_at i j b =
      both_ways (eqb i (y + 5) && eqb j x) (eqb (code_of j (i - 5)) (code_of x y))
      (λ t.
      let e = eqb→eq i (y + 5) (and_left (eqb i (y + 5)) (eqb j x) t) in
      let g = eqb→eq j x (and_right (eqb i (y + 5)) (eqb j x) t) in
      true-T (eq-eqb (code_of j (i - 5)) (code_of x y) (omega arith)))
      (λ t.
      let o = on-elim i j b in
      let low = o.low in
      let high = o.high in
      let e = eqb→eq (code_of j (i - 5)) (code_of x y) t in
      and_intro (eqb i (y + 5)) (eqb j x) (true-T (eq-eqb i (y + 5) (omega arith))) (true-T (eq-eqb j x (omega arith))))

  off-here : (i j : ℕ) → on_board i j ≡ false → (eqb i (y + 5) && eqb j x) ≡ false
  off-here i j e =
      not-false (not-intro (eqb i (y + 5) && eqb j x)
      (λ t.
      let g = eqb→eq i (y + 5) (and_left (eqb i (y + 5)) (eqb j x) t) in
      let h = eqb→eq j x (and_right (eqb i (y + 5)) (eqb j x) t) in
      not-elim (on_board i j) (false-not e) (on-intro i j (omega arith) (omega arith) (omega arith))))

  module _ (f : ℕ → Bool) where
    -- bit j of mask i, before the mark and with it
    abbrev before : ℕ → ℕ → Bool
    before i j = on_board i j && codes_below (code_of x y) f (code_of j (i - 5))

    mark-bit : (i j : ℕ) → (before i j || (eqb i (y + 5) && eqb j x) && f (code_of x y))
        ≡ (on_board i j && codes_below (code_of x y + 1) f (code_of j (i - 5)))
    mark-bit i j = go (decide (on_board i j))
      where
        go : (on_board i j ≡ true) ⊎ (on_board i j ≡ false)
            → (before i j || (eqb i (y + 5) && eqb j x) && f (code_of x y))
            ≡ (on_board i j && codes_below (code_of x y + 1) f (code_of j (i - 5)))
        go (inl e) = rw (code_at i j (true-T e), e) (codes-more f (code_of x y) (code_of j (i - 5)))
        go (inr e) = rw (off-here i j e, e)

    -- THE LAW: the mark of the next code is put in
    pub marks-more : {l : List ℕ} {m : ℕ} → l ≡ marks (codes_below (code_of x y) f) → m ≡ mask_of 16 (λ j. f (code_of x y) && eqb j x)
        → set l (y + 5) (bit_or (get_or l (y + 5) 0) m) ≡ marks (codes_below (code_of x y + 1) f)
    unfolding marks row_mask
    marks-more {l} {m} e g =
        is-tab (set l (y + 5) (bit_or (get_or l (y + 5) 0) m)) 26 (row_mask (codes_below (code_of x y + 1) f))
        (length-set l (y + 5) (bit_or (get_or l (y + 5) 0) m) ∙ len) (λ i h. at i h (ℕ_discrete i (y + 5)))
      where
        len : length l ≡ 26
        len = ap length e ∙ length-tab 26 (row_mask (codes_below (code_of x y) f))

        was : (i : ℕ) → i < 26 → get_or l i 0 ≡ row_mask (codes_below (code_of x y) f) i
        was i h = marks-row (codes_below (code_of x y) f) e i h

        at : (i : ℕ) → i < 26 → Dec (i ≡ y + 5)
            → get_or (set l (y + 5) (bit_or (get_or l (y + 5) 0) m)) i 0 ≡ row_mask (codes_below (code_of x y + 1) f) i
        at i h (yes q) =
            ap (λ (k : ℕ). get_or (set l (y + 5) (bit_or (get_or l (y + 5) 0) m)) k 0) q
            ∙ get_or-set_same l (y + 5) (bit_or (get_or l (y + 5) 0) m) 0 (omega (arith, len))
            ∙ ap₂ bit_or (ap (λ (k : ℕ). get_or l k 0) (sym q) ∙ was i h) g
            ∙ mask-or 16 _ _
            ∙ mask-cong 16 _ _ (λ j k. ap (λ (c : Bool). before i j || c) (here j) ∙ mark-bit i j)
          where
            here : (j : ℕ) → (f (code_of x y) && eqb j x) ≡ ((eqb i (y + 5) && eqb j x) && f (code_of x y))
            here j = and-flip (f (code_of x y)) (eqb j x) ∙ sym (rw (eq-eqb i (y + 5) q))
        at i h (no q) =
            get_or-set_other l (y + 5) i (bit_or (get_or l (y + 5) 0) m) 0 q ∙ was i h
            ∙ mask-cong 16 _ _ (λ j k. sym (or-false (before i j)) ∙ ap (λ (c : Bool). before i j || c) (other j) ∙ mark-bit i j)
          where
            other : (j : ℕ) → false ≡ ((eqb i (y + 5) && eqb j x) && f (code_of x y))
            other j = rw (ne_eqb i (y + 5) q)

-- none is marked at first, and all are at the end
pub marks-none : (f : ℕ → Bool) → ((p : ℕ) → f p ≡ false) → zeros 26 ≡ marks f
unfolding marks row_mask
marks-none f e =
    is-tab (zeros 26) 26 (row_mask f) (length-zeros 26)
    (λ i h. zeros-at 26 i
    ∙ sym (mask-none 16 _ (λ x k. ap (λ (b : Bool). on_board i x && b) (e (code_of x (i - 5))) ∙ and-false (on_board i x))))

pub codes-none : (f : ℕ → Bool) → zeros 26 ≡ marks (codes_below 0 f)
unfolding codes_below
codes-none f = marks-none (codes_below 0 f) (λ p. rw (le-ltb p 0 (omega arith)))

pub codes_all : (f : ℕ → Bool) → marks (codes_below 225 f) ≡ marks f
unfolding codes_below
codes_all f = marks-cong (codes_below 225 f) f (λ p h. rw (lt-ltb p 225 h))
