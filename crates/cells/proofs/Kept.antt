-- Lists that are collected off the cells: how long a part can be, what comes after the last one, and what one turn finds. Assumes nothing.
use mathlib.Core.Path.{◌≡◌, refl, ap, ap₂, sym, ◌∙◌}
use mathlib.Core.Bool.{Bool, true, false, not, ◌&&◌, ◌||◌}
use mathlib.Core.List.{List, [], ◌∷◌, ◌++◌, append-nil, append_assoc}
use Prim.Native.Nat.{ℕ, ◌+◌, ◌-◌, ◌/◌, ◌≤◌, ◌<◌}
use native.Mathlib.Omega.{arith}
use lib.Dec.{eqb}
use lib.ListN.{length, get_or}
use borrow.Author.Tests.{le-leb, lt-leb, le-ltb, lt-ltb}
use Rattle.rules.specs.Tools.{gather, only}
use Rattle.rules.specs.Point.{line_no, cell_no, line_size, point_at}
use Rattle.rules.specs.Grid.{is_empty, empty_points, on_line, neighbour_item, neighbours_in}
use Rattle.rules.proofs.Lists.{gather_cong}
use Rattle.std.specs.Prelude.{Result, Ok, Err}
use Rattle.rules.specs.declared.refusal.Refusal.{Refusal}
use Rattle.rules.specs.Refusals.{first}
use Rattle.rules.specs.Answers.{answer, checked, refusal_named}
use Rattle.lent.specs.Lists.{kept, list_refusal, list_out, counted}
use Rattle.lent.proofs.Laws.{short, kept_lem, gather-more}
use Rattle.cells.specs.Cells.{cells_refusal, value_list}
use Rattle.cells.proofs.Given.{cells_in, empty-value}

-- ---- a list that is kept behind another

module _ (size : ℕ) (old : List ℕ) (f : ℕ → List ℕ) (i : ℕ) {l new : List ℕ} (h : l ≡ old ++ gather i f) where
  -- a turn of a loop over i that keeps what f gives there
  pub behind_kept : (item : List ℕ) → new ≡ kept size l item → length l + length item ≤ size → item ≡ f i → new ≡ old ++ gather (i + 1) f
  behind_kept item k room e =
      k ∙ kept_lem size l item room ∙ ap₂ (λ (x y : List ℕ). x ++ y) h e ∙ append_assoc old (gather i f) (f i)
      ∙ ap (λ (x : List ℕ). old ++ x) (gather-more i f)

  -- .. at which f gives nothing
  pub behind_passed : new ≡ l → [] ≡ f i → new ≡ old ++ gather (i + 1) f
  behind_passed k e =
      k ∙ h ∙ ap (λ (x : List ℕ). old ++ x) (sym (append-nil (gather i f)) ∙ ap (λ (x : List ℕ). gather i f ++ x) e ∙ gather-more i f)

-- ---- a list that is handed out with its count, one byte for each item

module _ (told : ℕ) (out a : List ℕ) {r : Result ℕ Refusal} where
  -- nothing was refused before
  pub handed_codes : {list : List ℕ} {n : ℕ} {out' : List ℕ} → told ≡ 0 → list ≡ a → n ≡ length list
      → (r ≡ answer (list_refusal 0 out list) n) × (out' ≡ list_out 0 out list)
      → (r ≡ counted 1 told out a) × (out' ≡ list_out told out a)
  unfolding counted
  handed_codes {list} {n} none same many k =
      let one : n ≡ length a / 1 = omega (arith, many, ap length same) in
      (rw (none, sym same) (k.0 ∙ ap (answer (list_refusal 0 out list)) (one ∙ sym (ap (λ (x : List ℕ). length x / 1) same))), rw (none, sym same) k.1)

  -- it was refused, and the lent buffer is as it was
  pub refused_codes : {x : Refusal} → checked told ≡ Err x → r ≡ Err x → (r ≡ counted 1 told out a) × (out ≡ list_out told out a)
  unfolding answer counted list_out list_refusal first
  refused_codes {x} e k = go (eqb told 0) refl
    where
      go : (t : Bool) → eqb told 0 ≡ t → (r ≡ counted 1 told out a) × (out ≡ list_out told out a)
      go true q = let z : Ok tt ≡ Err x = rw q at e in cc
      go false q = let z : Err (refusal_named told) ≡ Err x = rw q at e in (k ∙ rw (q, q) (cc), rw (q, q))

-- ---- empty points

pub empty_list : (cells : List ℕ) → cells_refusal cells ≡ 0 → value_list cells 0 ≡ empty_points cells
unfolding value_list empty_points
empty_list cells e = gather_cong 225 _ _ (λ p h. ap (λ (b : Bool). only b (p ∷ [])) (empty-value cells (cells_in cells e) p h))

-- ---- neighbours

pub near-short : (cells : List ℕ) (p n : ℕ) (only_empty : Bool) (d i : ℕ) → length (gather i (neighbour_item cells p n only_empty d)) ≤ i
near-short cells p n only_empty d i =
    let a = short 1 (λ s. on_line (line_size d (line_no d p)) (cell_no d p) n s
    && (not only_empty || is_empty (get_or cells (point_at d (line_no d p) (cell_no d p + s - n)) 0)))
    (λ s. point_at d (line_no d p) (cell_no d p + s - n) ∷ []) (λ s. omega arith) i in
    omega arith

pub around-short : (cells : List ℕ) (p n : ℕ) (only_empty : Bool) → n < 15 → (d : ℕ) → length (neighbours_in cells p n only_empty d) ≤ 29
around-short cells p n only_empty h d = let a = near-short cells p n only_empty d (n + n + 1) in omega arith

module _ (cells : List ℕ) (p n : ℕ) (only_empty : Bool) (d s : ℕ) where
  pub near_before : cell_no d p + s < n → [] ≡ neighbour_item cells p n only_empty d s
  unfolding on_line
  near_before h = rw (lt-leb n (cell_no d p + s) h)

  pub near-past : n ≤ cell_no d p + s → line_size d (line_no d p) ≤ cell_no d p + s - n → [] ≡ neighbour_item cells p n only_empty d s
  unfolding on_line
  near-past h g = rw (le-leb n (cell_no d p + s) h, le-ltb (cell_no d p + s - n) (line_size d (line_no d p)) g)

  pub near-there : n ≤ cell_no d p + s → cell_no d p + s - n < line_size d (line_no d p)
      → only (not only_empty || is_empty (get_or cells (point_at d (line_no d p) (cell_no d p + s - n)) 0))
      (point_at d (line_no d p) (cell_no d p + s - n) ∷ []) ≡ neighbour_item cells p n only_empty d s
  unfolding on_line
  near-there h g = rw (le-leb n (cell_no d p + s) h, lt-ltb (cell_no d p + s - n) (line_size d (line_no d p)) g)
