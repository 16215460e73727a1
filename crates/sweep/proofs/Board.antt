-- The marks of a board's cells: the rows that start at each point, the rows through it, and the points to ask about. Assumes nothing.
use mathlib.Core.Path.{◌≡◌, refl, sym, ap₂, ◌∙◌}
use mathlib.Core.Bool.{Bool, true, not, ◌&&◌, ◌||◌}
use mathlib.Core.List.{List}
use Prim.Native.Nat.{ℕ, zero, suc, ◌^◌, ◌-◌, ◌<◌}
use native.Mathlib.Omega.{arith}
use lib.ListN.{get_or, length}
use lib.Bits.{bit_and, bit_or, or_lt}
use lib.Pow.{ones_sub-lt}
use borrow.Author.Tests.{eq-eqb, ne_eqb}
use Rattle.rules.specs.Numbers.{colour_no}
use Rattle.rules.specs.Line.{Stones, among, span, row_at}
use Rattle.rules.specs.Point.{line_no, cell_no, line_count, line_size}
use Rattle.rules.specs.Grid.{is_empty, stone_at, row_on, rows_through}
use Rattle.rules.specs.Forbidden.{some_row, more_than_one, is_overline, is_double_four, may_forbid}
use Rattle.rules.specs.declared.Player.{Player}
use Rattle.rules.specs.declared.Player.TheVariants.{Black, White}
use Rattle.rules.specs.declared.RowKind.{RowKind}
use Rattle.rules.specs.declared.RowKind.TheVariants.{Two, Sword, Overlining}
use Rattle.rules.proofs.Address.{line-here}
use Rattle.rules.proofs.Rows.{row_on-inside}
use Rattle.rules.proofs.More.{some_row-same, more_same}
use Rattle.rules.proofs.Tables.{table2}
use Rattle.lent.specs.Lists.{zeros}
use Rattle.sweep.specs.Marks.{row_mask, marks, asked_at, is_marked, every_point, has_value, Says, along_line, row_from, AllRows}
use Rattle.sweep.specs.Marks.{starts_through, marks_in, all_through}
use Rattle.sweep.proofs.Marks.{marked-at, marks-cong, marks-none, marks-row, marks-fit, row-and, row-cong}
use Rattle.sweep.proofs.Marks.{says-mask, says-or, says-not}
use Rattle.sweep.proofs.Starts.{along-marks, marks-along}

module _ (cells : List ℕ) {b w : List ℕ} (eb : b ≡ marks (has_value cells 1)) (ew : w ≡ marks (has_value cells 2)) where
  -- ---- a board's rows

  stones-line : {m : List ℕ} (r : Player) (d i : ℕ) → m ≡ marks (has_value cells (colour_no r)) → d < 4 → i < line_count d
      → along_line (is_marked m) d i ≡ stone_at r cells d i
  unfolding stone_at along_line has_value
  stones-line r d i e hd hi = along-marks (has_value cells (colour_no r)) e d i hd hi

  rows-here : {m : List ℕ} (k : RowKind) (d : ℕ) → d < 4 → m ≡ marks (row_from (is_marked b) (is_marked w) k d)
      → m ≡ marks (λ p. row_on Black k cells d (line_no d p) (cell_no d p))
  unfolding row_from row_on
  rows-here k d hd e =
      e ∙ marks-cong _ _
      (λ p hp. ap₂ (λ (x y : Stones). row_at true (line_size d (line_no d p)) x y k (cell_no d p))
      (stones-line Black d (line_no d p) eb hd (line-here d p hd hp)) (stones-line White d (line_no d p) ew hd (line-here d p hd hp)))

  -- ---- the rows through a point

  -- a row of the kind starts where a list marks
  abbrev Starting : RowKind → ℕ → List ℕ → Type 0
  Starting k d m = m ≡ marks (row_from (is_marked b) (is_marked w) k d)

  module _ (k : RowKind) (n : ℕ) (size : n ≡ span k) {v h a e : List ℕ} (ev : Starting k 0 v) (eh : Starting k 1 h) (ea : Starting k 2 a)
      (ee : Starting k 3 e) (p : ℕ) (hp : p < 225) where
    lists : (d : ℕ) → d < 4 → Starting k d (marks_in v h a e d)
    lists zero l = ev
    lists (suc zero) l = eh
    lists (suc (suc zero)) l = ea
    lists (suc (suc (suc zero))) l = ee
    lists (suc (suc (suc (suc d)))) l = absurd (omega arith)

    same : (d j : ℕ) → d < 4 → j < 16 → all_through n (marks_in v h a e) p d j ≡ rows_through Black k cells p d j
    unfolding all_through starts_through rows_through
    same d j hd hj =
        ap₂ (λ (m : ℕ) (row : Stones). among m j (cell_no d p) && row j) size
        (marks-along d (line_no d p) hd (line-here d p hd hp) (λ i j. row_on Black k cells d i j)
        (λ j t. let f = row_on-inside Black k cells d (line_no d p) j t in omega arith) (rows-here k d hd (lists d hd)))

    some-through : some_row (all_through n (marks_in v h a e) p) ≡ some_row (rows_through Black k cells p)
    some-through = some_row-same (all_through n (marks_in v h a e) p) (rows_through Black k cells p) same

    more-through : more_than_one (all_through n (marks_in v h a e) p) ≡ more_than_one (rows_through Black k cells p)
    more-through = more_same (all_through n (marks_in v h a e) p) (rows_through Black k cells p) same

  -- ---- the points to ask about

  module _ {v2 v3 v4 h2 h3 h4 a2 a3 a4 d2 d3 d4 : List ℕ} (v : AllRows (is_marked b) (is_marked w) 0 v2 v3 v4)
      (h : AllRows (is_marked b) (is_marked w) 1 h2 h3 h4) (a : AllRows (is_marked b) (is_marked w) 2 a2 a3 a4)
      (d : AllRows (is_marked b) (is_marked w) 3 d2 d3 d4) where
    -- the three tests, as the marks answer them
    abbrev pub overlines : ℕ → Bool
    overlines p = some_row (all_through 4 (marks_in v4 h4 a4 d4) p)

    abbrev pub double_fours : ℕ → Bool
    double_fours p = more_than_one (all_through 5 (marks_in v3 h3 a3 d3) p)

    abbrev pub double_twos : ℕ → Bool
    double_twos p = more_than_one (all_through 4 (marks_in v2 h2 a2 d2) p)

    may_here : (p : ℕ) → p < 225 → ((overlines p || double_fours p) || double_twos p) ≡ may_forbid cells p
    unfolding may_forbid is_overline is_double_four
    may_here p hp =
        ap₂ (λ (x y : Bool). x || y)
        (ap₂ (λ (x y : Bool). x || y)
        (some-through Overlining 4 refl v.overs h.overs a.overs d.overs p hp)
        (more-through Sword 5 refl v.swords h.swords a.swords d.swords p hp))
        (more-through Two 4 refl v.twos h.twos a.twos d.twos p hp)

    empty-here : (p : ℕ) → p < 225 → not (is_marked b p || is_marked w p) ≡ is_empty (get_or cells p 0)
    unfolding has_value
    empty-here p hp =
        ap₂ (λ (x y : Bool). not (x || y)) (marked-at _ eb p hp) (marked-at _ ew p hp)
        ∙ table2 (λ x y. not (x || y)) (λ x y. not x && not y) tt (has_value cells 1 p) (has_value cells 2 p)

    -- THE LAW: a row of the points to ask about
    module _ (size : length cells ≡ 225) {all : List ℕ} (el : all ≡ marks every_point) (i : ℕ) (hi : i < 26) {o f t : ℕ} where
      pub asked-row : o < 2 ^ 16 → f < 2 ^ 16 → t < 2 ^ 16 → Says o i overlines → Says f i double_fours → Says t i double_twos
          → bit_and (bit_and (get_or all i 0) (65535 - bit_or (get_or b i 0) (get_or w i 0))) (bit_or (bit_or o f) t) ≡ row_mask (asked_at cells) i
      unfolding every_point asked_at
      asked-row ho hf ht so sf st =
          row-and _ _ i (or_lt 16 _ _ (or_lt 16 _ _ ho hf) ht)
          (row-and every_point _ i (ones_sub-lt 16 _) (marks-row every_point el i hi)
          (says-not (or_lt 16 _ _ (marks-fit _ eb i hi) (marks-fit _ ew i hi))
          (says-or (says-mask b i) (says-mask w i))))
          (says-or (says-or so sf) st)
          ∙ row-cong _ _ i
          (λ p hp. ap₂ (λ (x y : Bool). x && y) (empty-here p hp) (may_here p hp) ∙ sym (rw (eq-eqb (length cells) 225 size)))

-- no point of cells that are not 225
pub asked-none : (cells : List ℕ) → (length cells ≡ 225 → ⊥) → zeros 26 ≡ marks (asked_at cells)
unfolding asked_at
asked-none cells n = marks-none (asked_at cells) (λ p. rw (ne_eqb (length cells) 225 n))
