-- Laws of a diagram, as the code reads it: one cell a turn, and one line a turn. Assumes nothing.
use mathlib.Core.Path.{◌≡◌, refl, ap, sym, ◌∙◌}
use mathlib.Core.Bool.{Bool, true, false, ◌&&◌, cond}
use mathlib.Core.Logic.{◌⊎◌, inl, inr}
use mathlib.Core.List.{List, [], ◌∷◌}
use Prim.Native.Nat.{ℕ, ◌+◌, ◌-◌, ◌≤◌, ◌<◌}
use native.Mathlib.Omega.{arith}
use lib.Dec.{T, leb, ltb, eqb, le→leb, eqb→eq}
use lib.ListN.{length, get_or, drop, set, length-set, length-drop, get_or-eq_default}
use lib.Seq.{get_or-set_same, get_or-set_other}
use borrow.Author.Tests.{eq-eqb, eqb-true, eqb-false, lt-ltb, le-ltb, ltb-true, ltb-false, lt-leb}
use Rattle.rules.specs.Refusals.{first, unless}
use Rattle.rules.specs.Tools.{all_below, tab}
use Rattle.rules.specs.Point.{x_of, y_of, code_of}
use Rattle.rules.proofs.Logic.{all_more, all-step, all-fails, and-flip, T_true, decide}
use Rattle.rules.proofs.Lists.{length-tab, get_d-tab, tab-cong, is-tab}
use Rattle.std.specs.Prelude.{Result, Ok, Err}
use Rattle.rules.specs.Answers.{answer, checked}
use Rattle.rules.specs.declared.refusal.Refusal.{Refusal}
use Rattle.rules.specs.declared.refusal.Refusal.TheVariants.{OverLength}
use Rattle.rules.proofs.Refusals.{passed, first-none}
use Rattle.lent.specs.Lists.{zeros}
use Rattle.lent.proofs.Laws.{length-zeros, zeros-at}
use Rattle.text.specs.Bytes.{dense}
use Rattle.text.specs.Rows.{letter_put, row_put}
use Rattle.text.specs.Reading.{letter_cell, size_at, count_refusal, diagram_refusal, diagram_cells}
use Rattle.text.proofs.Told.{told_same, told_ok, told_err, tells_ok, tells_err}
use Rattle.text.proofs.Dense.{next-is, next-rest, next-none}

-- ---- the cells of line k put, one a turn
pub row_step : (k x : ℕ) (l line : List ℕ) (b : ℕ) (cells cells' : List ℕ) → l ≡ b ∷ line → cells' ≡ letter_put k x b cells
    → row_put k x l cells ≡ row_put k (x + 1) line cells'
unfolding row_put
row_step k x l line b cells cells' e p = rw (e, p)

pub row-end : (k x : ℕ) (l cells : List ℕ) → l ≡ [] → row_put k x l cells ≡ cells
unfolding row_put
row-end k x l cells e = rw e

-- ---- the first x cells of line k stand on its row
abbrev on_row : ℕ → ℕ → Bool
on_row k p = eqb (y_of p + k) 14

row_cell : ℕ → ℕ → List ℕ → List ℕ → ℕ → ℕ
row_cell k x line cells p = cond (on_row k p && ltb (x_of p) x) (letter_cell (get_or line (x_of p) 0)) (get_or cells p 0)

pub row_to : ℕ → ℕ → List ℕ → List ℕ → List ℕ
row_to k x line cells = tab 225 (row_cell k x line cells)

module _ (k : ℕ) (line cells : List ℕ) where
  none-on : (p : ℕ) → row_cell k 0 line cells p ≡ get_or cells p 0
  unfolding row_cell
  none-on p = go (on_row k p) (ltb (x_of p) 0) (le-ltb (x_of p) 0 (omega arith))
    where
      go : (a b : Bool) → b ≡ false → cond (a && b) (letter_cell (get_or line (x_of p) 0)) (get_or cells p 0) ≡ get_or cells p 0
      go true b e = rw e
      go false b e = refl

  row-none : length cells ≡ 225 → cells ≡ row_to k 0 line cells
  unfolding row_to
  row-none e = is-tab cells 225 (row_cell k 0 line cells) e (λ p h. sym (none-on p))

  module _ (x : ℕ) where
    -- a cell that is not cell x of line k stays
    row_same : (p : ℕ) → (on_row k p ≡ true → x_of p ≡ x → ⊥) → row_cell k x line cells p ≡ row_cell k (x + 1) line cells p
    unfolding row_cell
    row_same p n = go (decide (on_row k p)) (decide (ltb (x_of p) x))
      where
        go : (on_row k p ≡ true) ⊎ (on_row k p ≡ false) → (ltb (x_of p) x ≡ true) ⊎ (ltb (x_of p) x ≡ false)
            → cond (on_row k p && ltb (x_of p) x) (letter_cell (get_or line (x_of p) 0)) (get_or cells p 0)
            ≡ cond (on_row k p && ltb (x_of p) (x + 1)) (letter_cell (get_or line (x_of p) 0)) (get_or cells p 0)
        go (inr t) u = rw t
        go (inl t) (inl u) = let l = ltb-true (x_of p) x u in rw (t, u, lt-ltb (x_of p) (x + 1) (omega arith))
        go (inl t) (inr u) =
            let l = ltb-false (x_of p) x u in
            rw (t, u, le-ltb (x_of p) (x + 1) (omega (arith, n t)))

    module _ (b : ℕ) (e : get_or line x 0 ≡ b) where
      abbrev put : List ℕ
      put = letter_put k x b (row_to k x line cells)

      put-long : length put ≡ 225
      unfolding letter_put row_to
      put-long = go (ltb k 15 && ltb x 15)
        where
          go : (t : Bool) → length (cond t (set (row_to k x line cells) (code_of x (14 - k)) (letter_cell b)) (row_to k x line cells)) ≡ 225
          go true = length-set (row_to k x line cells) (code_of x (14 - k)) (letter_cell b) ∙ length-tab 225 (row_cell k x line cells)
          go false = length-tab 225 (row_cell k x line cells)

      -- the cell itself
      put-here : (p : ℕ) → k < 15 → p ≡ code_of x (14 - k) → letter_cell b ≡ row_cell k (x + 1) line cells p
      unfolding row_cell
      put-here p l w =
          let y : y_of p + k ≡ 14 = omega arith in
          let z : x_of p ≡ x = omega arith in
          rw (eq-eqb (y_of p + k) 14 y, lt-ltb (x_of p) (x + 1) (omega arith), z, e)

      put-at : (p : ℕ) → p < 225 → get_or put p 0 ≡ row_cell k (x + 1) line cells p
      unfolding letter_put row_to
      put-at p h = go (decide (ltb k 15)) (decide (ltb x 15)) (decide (eqb p (code_of x (14 - k))))
        where
          was : get_or (tab 225 (row_cell k x line cells)) p 0 ≡ row_cell k x line cells p
          was = get_d-tab 225 (row_cell k x line cells) p h

          go : (ltb k 15 ≡ true) ⊎ (ltb k 15 ≡ false) → (ltb x 15 ≡ true) ⊎ (ltb x 15 ≡ false)
              → (eqb p (code_of x (14 - k)) ≡ true) ⊎ (eqb p (code_of x (14 - k)) ≡ false)
              → get_or (cond (ltb k 15 && ltb x 15) (set (tab 225 (row_cell k x line cells)) (code_of x (14 - k)) (letter_cell b))
              (tab 225 (row_cell k x line cells))) p 0
              ≡ row_cell k (x + 1) line cells p
          go (inr t) u v =
              let l = ltb-false k 15 t in
              rw t (was ∙ row_same p (λ on w. let y = eqb-true (y_of p + k) 14 on in omega arith))
          go (inl t) (inr u) v =
              let l = ltb-false x 15 u in
              rw (t, u) (was ∙ row_same p (λ on w. omega arith))
          go (inl t) (inl u) (inl v) =
              let l = ltb-true k 15 t in
              let m = ltb-true x 15 u in
              let w = eqb-true p (code_of x (14 - k)) v in
              let n = length-tab 225 (row_cell k x line cells) in
              rw (t, u) (ap (λ (q : ℕ). get_or (set (tab 225 (row_cell k x line cells)) (code_of x (14 - k)) (letter_cell b)) q 0) w
              ∙ get_or-set_same (tab 225 (row_cell k x line cells)) (code_of x (14 - k)) (letter_cell b) 0 (omega arith) ∙ put-here p l w)
          go (inl t) (inl u) (inr v) =
              let l = ltb-true k 15 t in
              let w = eqb-false p (code_of x (14 - k)) v in
              rw (t, u) (get_or-set_other (tab 225 (row_cell k x line cells)) (code_of x (14 - k)) p (letter_cell b) 0 w ∙ was
              ∙ row_same p (λ on z. let y = eqb-true (y_of p + k) 14 on in w (omega arith)))

      row_more : put ≡ row_to k (x + 1) line cells
      unfolding row_to
      row_more = is-tab put 225 (row_cell k (x + 1) line cells) put-long put-at

  -- all cells of the line
  row-all : (x : ℕ) (rest : List ℕ) → x ≤ length line → drop x line ≡ rest
      → row_put k x rest (row_to k x line cells) ≡ row_to k (length line) line cells
  unfolding row_put
  row-all x [] h e =
      let n = next-none 0 line x e in
      let z : x ≡ length line = omega arith in
      ap (λ (n : ℕ). row_to k n line cells) z
  row-all x (b ∷ rest) h e =
      let n = ap length e in
      ap (row_put k (x + 1) rest) (row_more x b (next-is 0 line x b rest e))
      ∙ row-all (x + 1) rest (omega (arith, length-drop x line)) (next-rest 0 line x b rest e)

  pub row_put_lem : length cells ≡ 225 → row_put k 0 line cells ≡ row_to k (length line) line cells
  row_put_lem n = ap (row_put k 0 line) (row-none n) ∙ row-all 0 line (omega arith) refl

-- ---- the cells of the first k lines
shown_cell : List (List ℕ) → ℕ → ℕ
shown_cell lines p = letter_cell (get_or (dense (get_or lines (14 - y_of p) [])) (x_of p) 0)

pub shown_to : ℕ → List (List ℕ) → List ℕ
shown_to k lines = tab 225 (λ p. cond (ltb (14 - y_of p) k) (shown_cell lines p) 0)

shown-none : (lines : List (List ℕ)) → zeros 225 ≡ shown_to 0 lines
unfolding shown_to
shown-none lines = is-tab (zeros 225) 225 _ (length-zeros 225) (λ p h. zeros-at 225 p ∙ rw (le-ltb (14 - y_of p) 0 (omega arith)))

shown-all : (lines : List (List ℕ)) → shown_to 15 lines ≡ diagram_cells lines
unfolding shown_to shown_cell diagram_cells
shown-all lines = tab-cong 225 _ _ (λ p h. rw (lt-ltb (14 - y_of p) 15 (omega arith)))

-- one line more
module _ (lines : List (List ℕ)) (k : ℕ) (line : List ℕ) (e : dense (get_or lines k []) ≡ line) where
  -- past its last cell a line shows nothing
  shown-past : (x : ℕ) → length line ≤ x → letter_cell (get_or line x 0) ≡ 0
  unfolding letter_cell
  shown-past x h = rw (get_or-eq_default line 0 {n = x} h)

  shown-cell : (p : ℕ) → p < 225 → row_cell k (length line) line (shown_to k lines) p ≡ cond (ltb (14 - y_of p) (k + 1)) (shown_cell lines p) 0
  unfolding row_cell shown_to shown_cell
  shown-cell p h =
      ap (λ (v : ℕ). cond (on_row k p && ltb (x_of p) (length line)) (letter_cell (get_or line (x_of p) 0)) v)
      (get_d-tab 225 (λ q. cond (ltb (14 - y_of q) k) (shown_cell lines q) 0) p h)
      ∙ go (decide (on_row k p)) (decide (ltb (x_of p) (length line))) (decide (ltb (14 - y_of p) k))
    where
      go : (on_row k p ≡ true) ⊎ (on_row k p ≡ false) → (ltb (x_of p) (length line) ≡ true) ⊎ (ltb (x_of p) (length line) ≡ false)
          → (ltb (14 - y_of p) k ≡ true) ⊎ (ltb (14 - y_of p) k ≡ false)
          → cond (on_row k p && ltb (x_of p) (length line)) (letter_cell (get_or line (x_of p) 0)) (cond (ltb (14 - y_of p) k)
          (letter_cell (get_or (dense (get_or lines (14 - y_of p) [])) (x_of p) 0)) 0)
          ≡ cond (ltb (14 - y_of p) (k + 1)) (letter_cell (get_or (dense (get_or lines (14 - y_of p) [])) (x_of p) 0)) 0
      go (inl t) (inl u) v =
          let y = eqb-true (y_of p + k) 14 t in
          let z : 14 - y_of p ≡ k = omega arith in
          rw (t, u, lt-ltb (14 - y_of p) (k + 1) (omega arith), z, e)
      go (inl t) (inr u) v =
          let y = eqb-true (y_of p + k) 14 t in
          let z : 14 - y_of p ≡ k = omega arith in
          let l = ltb-false (x_of p) (length line) u in
          rw (t, u, le-ltb (14 - y_of p) k (omega arith), lt-ltb (14 - y_of p) (k + 1) (omega arith), z, e) (sym (shown-past (x_of p) l))
      go (inr t) u (inl v) =
          let l = ltb-true (14 - y_of p) k v in
          rw (t, v, lt-ltb (14 - y_of p) (k + 1) (omega arith))
      go (inr t) u (inr v) =
          let l = ltb-false (14 - y_of p) k v in
          let n = eqb-false (y_of p + k) 14 t in
          rw (t, v, le-ltb (14 - y_of p) (k + 1) (omega (arith, n)))

  shown-more : row_put k 0 line (shown_to k lines) ≡ shown_to (k + 1) lines
  unfolding shown_to row_to
  shown-more =
      row_put_lem k line (shown_to k lines) (length-tab 225 (λ p. cond (ltb (14 - y_of p) k) (shown_cell lines p) 0))
      ∙ tab-cong 225 _ _ shown-cell

-- ---- the first k lines of a diagram are read: none is too long, `full` says whether all have 15 cells, and their cells are put
pub record Lined (lines : List (List ℕ)) (cells : List ℕ) (full : Bool) (k : ℕ) : Type 0 where
  pub fit : T (all_below k (λ j. leb (size_at lines j) 15))
  pub sizes : full ≡ all_below k (λ j. eqb (size_at lines j) 15)
  pub said : cells ≡ shown_to k lines

pub lined-none : (lines : List (List ℕ)) → Lined lines (zeros 225) true 0
unfolding all_below
lined-none lines = record { fit = tt; sizes = refl; said = shown-none lines }

-- ---- a turn: line k is read
module _ (lines : List (List ℕ)) (k : ℕ) (part : List ℕ) (e : get_or lines k [] ≡ part) (size : ℕ) (es : size ≡ length (dense part)) where
  at : size ≡ size_at lines k
  unfolding size_at
  at = es ∙ rw (← e)

  -- too long
  pub lined-long : k < length lines → 15 < size → 5 ≡ diagram_refusal lines
  unfolding diagram_refusal first unless
  lined-long h n =
      rw (all-fails (length lines) (λ j. leb (size_at lines j) 15) k h (lt-leb (size_at lines k) 15 (omega (arith, at))))

  pub lined_long : k < length lines → 15 < size
      → ◌≡◌ {A = Result (List ℕ) Refusal} (Err OverLength) (answer (diagram_refusal lines) (diagram_cells lines))
  lined_long h n =
      let e = sym (lined-long h n) in
      tells_err 5 (diagram_cells lines) (λ z. omega arith) ∙ ap (λ (m : ℕ). answer m (diagram_cells lines)) (sym e)

  pub lined-more : size ≤ 15 → (cells : List ℕ) (full : Bool) → Lined lines cells full k → (cells' : List ℕ) (full' : Bool)
      → cells' ≡ row_put k 0 (dense part) cells → full' ≡ (full && eqb size 15) → Lined lines cells' full' (k + 1)
  lined-more fits cells full h cells' full' p q =
      record {
        fit = all_more k (λ j. leb (size_at lines j) 15) h.fit (le→leb (size_at lines k) 15 (omega (arith, at)));
        sizes =
            q ∙ rw (h.sizes, at) (and-flip (all_below k (λ j. eqb (size_at lines j) 15)) (eqb (size_at lines k) 15))
            ∙ all-step k (λ j. eqb (size_at lines j) 15);
        said = p ∙ ap (row_put k 0 (dense part)) h.said ∙ shown-more lines k (dense part) (ap dense e);
      }

-- ---- behind the last line
module _ (lines : List (List ℕ)) (cells : List ℕ) (full : Bool) (k : ℕ) (h : Lined lines cells full k) (n : length lines ≡ k) where
  pub end-said : count_refusal k full ≡ diagram_refusal lines
  unfolding count_refusal diagram_refusal first unless
  end-said = rw (n, T_true {b = all_below k (λ j. leb (size_at lines j) 15)} h.fit, ← h.sizes)

  cells-said : count_refusal k full ≡ 0 → cells ≡ diagram_cells lines
  unfolding count_refusal
  cells-said z =
      let f : k ≡ 15 = eqb→eq k 15 (passed (eqb k 15) 5 (first-none (unless (eqb k 15) 6) (unless full 7) z).0) in
      h.said ∙ ap (λ (j : ℕ). shown_to j lines) f ∙ shown-all lines

  pub lined-done : answer (count_refusal k full) cells ≡ answer (diagram_refusal lines) (diagram_cells lines)
  lined-done = told_same (count_refusal k full) (diagram_refusal lines) cells (diagram_cells lines) end-said cells-said

  -- the count is refused, or nothing is
  pub lined-refused : (r : Refusal) → ◌≡◌ {A = Result Unit Refusal} (Err r) (checked (count_refusal k full))
      → ◌≡◌ {A = Result (List ℕ) Refusal} (Err r) (answer (diagram_refusal lines) (diagram_cells lines))
  lined-refused r e =
      let t = told_err (count_refusal k full) tt r e in
      rw t.1 (tells_err (count_refusal k full) cells t.0 ∙ lined-done)

  pub lined-ok : ◌≡◌ {A = Result Unit Refusal} (Ok tt) (checked (count_refusal k full))
      → ◌≡◌ {A = Result (List ℕ) Refusal} (Ok cells) (answer (diagram_refusal lines) (diagram_cells lines))
  lined-ok e = tells_ok (count_refusal k full) cells (told_ok (count_refusal k full) tt tt e).0 ∙ lined-done
